-- What a command or host entry writes is a resource that it names, so whether the host caches it stays.
use Rattle.std.proofs.Common.{◌≡◌, ℕ, ◌+◌, length, List, [], ◌∷◌, ◌++◌, Bool, true, false, IsTrue, Option, Some, None, refl, ap, sym, ◌∙◌, subst}
use Rattle.std.specs.Prelude.{Contains, is_some, if◌then◌else◌}
use Rattle.std.specs.List.{enumerate_from, flat_map}
use Rattle.std.proofs.lemmas.Bool.{or_left}
use Rattle.vk_model.specs.declared.entry.Entry.{Entry}
use Rattle.vk_model.specs.declared.entry.Entry.TheVariants as entry
use Rattle.vk_model.specs.declared.command.Cmd.{Cmd}
use Rattle.vk_model.specs.declared.command.Cmd.TheVariants as cmd
use Rattle.vk_model.specs.declared.resource.ImageInfo.{ImageInfo}
use Rattle.vk_model.specs.declared.command.BufferImageCopy.{BufferImageCopy}
use Rattle.vk_model.specs.declared.command.ImageCopy.{ImageCopy}
use Rattle.vk_model.specs.declared.command.SubresourceRange.{SubresourceRange}
use Rattle.vk_model.specs.Basics.{holds, below}
use Rattle.vk_model.specs.World.Bytes.{Byte, in_buffer, in_image, resource_at}
use Rattle.vk_model.specs.Trace.Image.{texel, level_width, level_height}
use Rattle.vk_model.specs.Trace.Objects.{made, live, image}
use Rattle.vk_model.specs.World.ByteWrites.{ByteWrite, byte_writes, copy_writes, copy_in_writes, copy_out_writes, copy_image_writes, clear_writes, clear_write, level_bytes, subresource_bytes}
use Rattle.vk_model.specs.Sync.Access.{host_writes, writes_of}
use Rattle.vk_model.specs.Rules.Ids.{asked_by, asked_by_command, asked_by_entry, is_buffer, is_image, is_dead, judged_in, until}
use Rattle.vk_model.specs.Trace.Point.{Past, Point, Action, host_of}
use Rattle.vk_model.specs.Sync.Node.{Node, Act, Hosts, Waits, Signals, Runs, Depends, acts}
use Rattle.vk_laws.specs.Trace.{accesses}
use Rattle.vk_model.proofs.Lists.Members.{contains-head, contains-tail, member_passes, none_in, mapped_from, flat_from}
use Rattle.vk_model.proofs.Lists.Truths.{unless}
use Rattle.vk_laws.proofs.Nodes.Steady.{IsNew, live_made, made_until, comes_here, comes_later, IsLive}
use Rattle.vk_laws.proofs.Nodes.Points.{AtPoint, action_of}
use Rattle.vk_laws.proofs.Nodes.Actions.{host_action}
use Rattle.vk_model.specs.Rules.Fault.{Comes, older}
use Rattle.vk_model.proofs.Lists.Grids.{grid_from}

abbrev pub Names : List (ℕ × (Entry → Bool)) → Byte → Type 0
Names asked c = (k : Entry → Bool) × Contains asked (resource_at c, k)

-- each byte write of a list is to this resource
abbrev Fills : ℕ → List ByteWrite → Type 0
Fills r ms = (m : ByteWrite) → Contains ms m → resource_at m.to ≡ r

level_fills : (i : ℕ) (n : ImageInfo) (r : SubresourceRange) (l : ℕ) (q : Byte × ℕ) → Contains (level_bytes i n r l) q → resource_at q.0 ≡ i
level_fills i n r l q c = ap (λ (q : Byte × ℕ). resource_at q.0) (grid_from (λ z y x b. (in_image i l (r.first_layer + z) x y b, b)) r.layers (level_height n l) (level_width n l) (texel n.format) q c).is

clear_fills : (i : ℕ) (color : List ℕ) (o : Option ImageInfo) (r : SubresourceRange) → Fills i (clear_writes i color o r)
clear_fills i color None r m c = absurd (none_in m c)
clear_fills i color (Some n) r m c =
    let p = mapped_from (clear_write n color) (subresource_bytes i n r) m c in
    let level = flat_from (λ k. level_bytes i n r (r.first_level + k)) (below r.levels) p.0 p.1 in
    ap (λ (m : ByteWrite). resource_at m.to) (sym p.2) ∙ level_fills i n r (r.first_level + level.0) p.0 level.2

in_fills : (b i : ℕ) (o : Option ImageInfo) (g : BufferImageCopy) → Fills i (copy_in_writes b i o g)
in_fills b i None g m c = absurd (none_in m c)
in_fills b i (Some n) g m c = ap (λ (m : ByteWrite). resource_at m.to) (grid_from _ g.layers g.height g.width (texel n.format) m c).is

out_fills : (i b : ℕ) (o : Option ImageInfo) (g : BufferImageCopy) → Fills b (copy_out_writes i b o g)
out_fills i b None g m c = absurd (none_in m c)
out_fills i b (Some n) g m c = ap (λ (m : ByteWrite). resource_at m.to) (grid_from _ g.layers g.height g.width (texel n.format) m c).is

image_fills : (s d : ℕ) (o : Option ImageInfo) (g : ImageCopy) → Fills d (copy_image_writes s d o g)
image_fills s d None g m c = absurd (none_in m c)
image_fills s d (Some n) g m c = ap (λ (m : ByteWrite). resource_at m.to) (grid_from _ g.layers g.height g.width (texel n.format) m c).is

all_fill : {G : Type 0} (r : ℕ) (f : G → List ByteWrite) (gs : List G) → ((g : G) → Fills r (f g)) → Fills r (flat_map f gs)
all_fill r f gs each m c = let g = flat_from f gs m c in each g.0 m g.2

pub first_named : (r : ℕ) (k : Entry → Bool) (rest : List (ℕ × (Entry → Bool))) (c : Byte) → resource_at c ≡ r → Names ((r, k) ∷ rest) c
first_named r k rest c same = (k, subst (λ (i : ℕ). Contains ((r, k) ∷ rest) (i, k)) (sym same) (contains-head (r, k) rest))

second_named : (p : ℕ × (Entry → Bool)) (r : ℕ) (k : Entry → Bool) (c : Byte) → resource_at c ≡ r → Names (p ∷ (r, k) ∷ []) c
second_named p r k c same = (k, subst (λ (i : ℕ). Contains (p ∷ (r, k) ∷ []) (i, k)) (sym same) (contains-tail p ((r, k) ∷ []) (r, k) (contains-head (r, k) [])))

pub command_names : (past : Past) (x : Cmd) (m : ByteWrite) → Contains (byte_writes past x) m → Names (asked_by_command x) m.to
command_names past (cmd.Fill b o n w) m c = let k = mapped_from _ _ m c in first_named b is_buffer [] m.to (ap (λ (m : ByteWrite). resource_at m.to) (sym k.2))
command_names past (cmd.Update b o bytes) m c = let k = mapped_from _ (enumerate_from 0 bytes) m c in first_named b is_buffer [] m.to (ap (λ (m : ByteWrite). resource_at m.to) (sym k.2))
command_names past (cmd.Copy s d gs) m c =
    let g = flat_from (copy_writes s d) gs m c in
    let k = mapped_from _ _ m g.2 in
    second_named (s, is_buffer) d is_buffer m.to (ap (λ (m : ByteWrite). resource_at m.to) (sym k.2))
command_names past (cmd.Clear i l color rs) m c = first_named i is_image [] m.to (all_fill i (clear_writes i color (image past i)) rs (clear_fills i color (image past i)) m c)
command_names past (cmd.CopyIn b i l gs) m c = second_named (b, is_buffer) i is_image m.to (all_fill i (copy_in_writes b i (image past i)) gs (in_fills b i (image past i)) m c)
command_names past (cmd.CopyOut i l b gs) m c = second_named (i, is_image) b is_buffer m.to (all_fill b (copy_out_writes i b (image past i)) gs (out_fills i b (image past i)) m c)
command_names past (cmd.CopyImage s l d n gs) m c = second_named (s, is_image) d is_image m.to (all_fill d (copy_image_writes s d (image past d)) gs (image_fills s d (image past d)) m c)
command_names past (cmd.Barrier es) m c = absurd (none_in m c)
command_names past (cmd.Set v ms) m c = absurd (none_in m c)
command_names past (cmd.Await v ms) m c = absurd (none_in m c)

pub host_names : (x : Entry) (c : Byte) → Contains (host_writes x) c → Names (asked_by_entry x) c
host_names (entry.Write b o bytes) c h = let k = mapped_from (λ k. in_buffer b (o + k)) (below (length bytes)) c h in first_named b is_buffer [] c (ap resource_at (sym k.2))
host_names _ c h = absurd (none_in c h)

-- what a point names was made before it
pub named_made : (all newer past : Past) (p : Point) (c : Byte) → all ≡ newer ++ p ∷ past → IsNew all → IsLive all → Names (asked_by p.action) c → (x : Entry) × (made past (resource_at c) ≡ Some x)
named_made all newer past p c whole new alive names = go (is_some (host_of p.action)) refl
  where
    come : (b : Past) (q : Point) → Comes (newer ++ p ∷ past) b q → Comes all b q
    come b q h = subst (λ (l : Past). Comes l b q) (sym whole) h

    new_past : IsNew past
    new_past b q h = new b q (come b q (comes_later newer (p ∷ past) b q (older h)))

    live_there : (judged : Past) → judged_in past p ≡ judged → (x : Entry) × (made judged (resource_at c) ≡ Some x)
    live_there judged e =
        live_made judged (resource_at c) names.0 (unless (holds (live judged (resource_at c)) names.0) (λ dead.
        alive past p (come past p (comes_here newer past p)) (or_left _ _ (member_passes (is_dead (judged_in past p)) (asked_by p.action) (resource_at c, names.0) names.1 (subst (λ (l : Past). IsTrue (is_dead l (resource_at c, names.0))) (sym e) dead)))))

    go : (b : Bool) → is_some (host_of p.action) ≡ b → (x : Entry) × (made past (resource_at c) ≡ Some x)
    go true e = live_there past (ap (λ (b : Bool). if b then past else until p.entry past) e)
    go false e =
        let l = live_there (until p.entry past) (ap (λ (b : Bool). if b then past else until p.entry past) e) in
        (l.0, made_until p.entry past (resource_at c) l.0 new_past l.1)

-- the resource of a byte that a node writes was made before the node's point
pub written_made : (all : Past) (n : Node) (s : AtPoint all n) (c : Byte) → IsNew all → IsLive all → IsTrue (accesses n.act) → (judged : Past) (q : ℕ) → Contains (writes_of judged q n.act) c → (x : Entry) × (made s.past (resource_at c) ≡ Some x)
written_made all n s c new alive access judged q h = named_made all s.newer s.past s.at c s.whole new alive (go n.act refl access h)
  where
    acted : (a : Act) → n.act ≡ a → Contains (acts s.at.action) a
    acted a e = subst (λ (a : Act). Contains (acts s.at.action) a) e s.acted

    go : (a : Act) → n.act ≡ a → IsTrue (accesses a) → Contains (writes_of judged q a) c → Names (asked_by s.at.action) c
    go (Runs x) e access h =
        let m = mapped_from (λ m. m.to) (byte_writes judged x) c h in
        let names = subst (λ (b : Byte). Names (asked_by_command x) b) m.2 (command_names judged x m.0 m.1) in
        subst (λ (d : Action). Names (asked_by d) c) (sym (action_of s.at.action x (acted (Runs x) e))) names
    go (Hosts x) e access h = subst (λ (d : Action). Names (asked_by d) c) (sym (host_action s.at.action x (acted (Hosts x) e))) (host_names x c h)
    go (Waits w) e access h = absurd cc
    go (Signals w) e access h = absurd cc
    go (Depends r d) e access h = absurd cc
