-- Pieces write and copy bytes of resources that were made.
use Rattle.std.proofs.Common.{◌≡◌, ℕ, List, [], ◌∷◌, ◌++◌, IsTrue, Option, Some, None, ap, sym, ◌∙◌, subst, append_assoc}
use Rattle.std.specs.Prelude.{Contains, is_some}
use Rattle.std.specs.List.{enumerate_from}
use Rattle.vk_model.specs.declared.entry.Entry.{Entry}
use Rattle.vk_model.specs.declared.command.Cmd.{Cmd}
use Rattle.vk_model.specs.declared.command.Cmd.TheVariants as cmd
use Rattle.vk_model.specs.declared.resource.ImageInfo.{ImageInfo}
use Rattle.vk_model.specs.declared.command.BufferImageCopy.{BufferImageCopy}
use Rattle.vk_model.specs.declared.command.ImageCopy.{ImageCopy}
use Rattle.vk_model.specs.declared.command.SubresourceRange.{SubresourceRange}
use Rattle.vk_model.specs.World.Bytes.{Byte, resource_at, same_byte}
use Rattle.vk_model.specs.Trace.Image.{texel}
use Rattle.vk_model.specs.Trace.Objects.{made, image}
use Rattle.vk_model.specs.Trace.Order.{order}
use Rattle.vk_model.specs.Trace.Point.{Past, Point, Action, Run}
use Rattle.vk_model.specs.World.ByteWrites.{ByteWrite, Value, From, byte_writes, copy_writes, copy_in_writes, copy_out_writes, copy_image_writes, clear_writes, clear_write, subresource_bytes}
use Rattle.vk_model.specs.Rules.Ids.{asked_by, asked_by_command, is_buffer, is_image}
use Rattle.vk_model.specs.Sync.Node.{Node, Act, Runs, nodes, acts}
use Rattle.vk_model.specs.Laws.{PiecesAreByteWrites}
use Rattle.vk_model.specs.Run.Pieces.{pieces}
use Rattle.vk_model.specs.Run.Runs.{Name, is_done, offered}
use Rattle.vk_model.specs.Run.CachedRuns.{named_piece, write_to}
use Rattle.vk_laws.specs.DefinedRuns.{IsPiece}
use Rattle.vk_laws.specs.DirectRuns.{is_made}
use Rattle.vk_model.proofs.Lists.Members.{none_in, found, mapped_from, flat_from, part_has}
use Rattle.vk_model.proofs.Lists.Grids.{grid_from}
use Rattle.vk_model.proofs.Trace.Growing.{Grows}
use Rattle.vk_laws.proofs.Nodes.Steady.{IsNew, IsLive, new_ids, live_ids, made_up, comes_within}
use Rattle.vk_laws.proofs.Nodes.Points.{at_point, action_of}
use Rattle.vk_laws.proofs.Caching.Named.{Names, first_named, command_names, named_made}
use Rattle.vk_laws.proofs.Running.StageTasks.{Known}
use Rattle.vk_laws.proofs.Running.OfferedPieces.{is_piece}
use Rattle.vk_model.proofs.World.BytePlaces.{byte_same}

-- ---- what a command copies from

taken : (m : ByteWrite) (b d : Byte) → m.source ≡ From b → m.source ≡ From d → resource_at d ≡ resource_at b
taken m b d e f = let same : b ≡ d = cc in ap resource_at (sym same)

from_value : (m : ByteWrite) (v : ℕ) (d : Byte) → m.source ≡ Value v → m.source ≡ From d → ⊥
from_value m v d e f = cc

clear_takes : (i : ℕ) (color : List ℕ) (o : Option ImageInfo) (r : SubresourceRange) (m : ByteWrite) → Contains (clear_writes i color o r) m → (d : Byte) → m.source ≡ From d → ⊥
clear_takes i color None r m c d e = none_in m c
clear_takes i color (Some n) r m c d e = let p = mapped_from (clear_write n color) (subresource_bytes i n r) m c in from_value m _ d (ap (λ (m : ByteWrite). m.source) (sym p.2)) e

in_takes : (b i : ℕ) (o : Option ImageInfo) (g : BufferImageCopy) (m : ByteWrite) → Contains (copy_in_writes b i o g) m → (d : Byte) → m.source ≡ From d → resource_at d ≡ b
in_takes b i None g m c d e = absurd (none_in m c)
in_takes b i (Some n) g m c d e = taken m _ d (ap (λ (m : ByteWrite). m.source) (grid_from _ g.layers g.height g.width (texel n.format) m c).is) e

out_takes : (i b : ℕ) (o : Option ImageInfo) (g : BufferImageCopy) (m : ByteWrite) → Contains (copy_out_writes i b o g) m → (d : Byte) → m.source ≡ From d → resource_at d ≡ i
out_takes i b None g m c d e = absurd (none_in m c)
out_takes i b (Some n) g m c d e = taken m _ d (ap (λ (m : ByteWrite). m.source) (grid_from _ g.layers g.height g.width (texel n.format) m c).is) e

image_takes : (s i : ℕ) (o : Option ImageInfo) (g : ImageCopy) (m : ByteWrite) → Contains (copy_image_writes s i o g) m → (d : Byte) → m.source ≡ From d → resource_at d ≡ s
image_takes s i None g m c d e = absurd (none_in m c)
image_takes s i (Some n) g m c d e = taken m _ d (ap (λ (m : ByteWrite). m.source) (grid_from _ g.layers g.height g.width (texel n.format) m c).is) e

command_takes : (past : Past) (x : Cmd) (m : ByteWrite) → Contains (byte_writes past x) m → (d : Byte) → m.source ≡ From d → Names (asked_by_command x) d
command_takes past (cmd.Fill b o n w) m c d e = let k = mapped_from _ _ m c in absurd (from_value m _ d (ap (λ (m : ByteWrite). m.source) (sym k.2)) e)
command_takes past (cmd.Update b o bytes) m c d e = let k = mapped_from _ (enumerate_from 0 bytes) m c in absurd (from_value m _ d (ap (λ (m : ByteWrite). m.source) (sym k.2)) e)
command_takes past (cmd.Copy s b gs) m c d e =
    let g = flat_from (copy_writes s b) gs m c in
    let k = mapped_from _ _ m g.2 in
    first_named s is_buffer ((b, is_buffer) ∷ []) d (taken m _ d (ap (λ (m : ByteWrite). m.source) (sym k.2)) e)
command_takes past (cmd.Clear i l color rs) m c d e = let r = flat_from (clear_writes i color (image past i)) rs m c in absurd (clear_takes i color (image past i) r.0 m r.2 d e)
command_takes past (cmd.CopyIn b i l gs) m c d e = let g = flat_from (copy_in_writes b i (image past i)) gs m c in first_named b is_buffer ((i, is_image) ∷ []) d (in_takes b i (image past i) g.0 m g.2 d e)
command_takes past (cmd.CopyOut i l b gs) m c d e = let g = flat_from (copy_out_writes i b (image past i)) gs m c in first_named i is_image ((b, is_buffer) ∷ []) d (out_takes i b (image past i) g.0 m g.2 d e)
command_takes past (cmd.CopyImage s l i n gs) m c d e = let g = flat_from (copy_image_writes s i (image past i)) gs m c in first_named s is_image ((i, is_image) ∷ []) d (image_takes s i (image past i) g.0 m g.2 d e)
command_takes past (cmd.Barrier es) m c d e = absurd (none_in m c)
command_takes past (cmd.Set v ms) m c d e = absurd (none_in m c)
command_takes past (cmd.Await v ms) m c d e = absurd (none_in m c)

-- ---- what a piece writes and copies its command names

pub piece_names : PiecesAreByteWrites → (past : Past) (x : Name) (p : IsPiece past x) (c : Byte) (w : ByteWrite) → write_to c (named_piece past x) ≡ Some w
    → Names (asked_by_command p.command) c × ((d : Byte) → w.source ≡ From d → Names (asked_by_command p.command) d)
piece_names together past x p c w is =
    (subst (λ (b : Byte). Names (asked_by_command p.command) b) (byte_same w.to c f.1) (command_names past p.command w written), λ d e. command_takes past p.command w written d e)
  where
    f : Contains (named_piece past x) w × IsTrue (same_byte w.to c)
    f = found (λ m. same_byte m.to c) (named_piece past x) w is

    written : Contains (byte_writes past p.command) w
    written = subst (λ (ms : List ByteWrite). Contains ms w) (together past p.command) (part_has (pieces past p.command) x.1 (named_piece past x) w p.content f.0)

-- ---- what a command of a stage names was made

module _ {t : List Entry} (known : Known t) (together : PiecesAreByteWrites) (P : Point → Type 0) (past : Past) (g : Grows P past (order t)) where
  new : IsNew past
  new b q h = new_ids (order t) known.sound b q (comes_within (order t) g.newer past g.whole b q h)

  alive : IsLive past
  alive b q h = live_ids (order t) known.sound b q (comes_within (order t) g.newer past g.whole b q h)

  named_there : (n : Node) (x : Cmd) → Contains (nodes past) n → n.act ≡ Runs x → (d : Byte) → Names (asked_by_command x) d → IsTrue (is_made past d)
  named_there n x cn act d names =
      let a = at_point past n cn in
      let run : a.at.action ≡ Run x = action_of a.at.action x (subst (λ (k : Act). Contains (acts a.at.action) k) act a.acted) in
      let y = named_made past a.newer a.past a.at d a.whole new alive (subst (λ (k : Action). Names (asked_by k) d) (sym run) names) in
      let whole : past ≡ (a.newer ++ a.at ∷ []) ++ a.past = a.whole ∙ sym (append_assoc a.newer (a.at ∷ []) a.past) in
      ap is_some (ap (λ (l : Past). made l (resource_at d)) whole ∙ made_up (a.newer ++ a.at ∷ []) a.past (resource_at d) y.0 (subst (λ (l : Past). IsNew l) whole new) y.1)

  pub inside : (done : List Name) (x : Name) (c : Byte) (w : ByteWrite) → IsTrue (is_done (offered past done) x) → write_to c (named_piece past x) ≡ Some w
      → IsTrue (is_made past c) × ((d : Byte) → w.source ≡ From d → IsTrue (is_made past d))
  inside done x c w h is =
      let p : IsPiece past x = is_piece past done x h in
      let present : Contains (nodes past) p.node = (found _ (nodes past) p.node p.present).0 in
      let names = piece_names together past x p c w is in
      (named_there p.node p.command present p.act c names.0, λ d e. named_there p.node p.command present p.act d (names.1 d e))
