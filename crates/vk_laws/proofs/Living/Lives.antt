-- Pieces that are offered write and copy bytes of live resources.
use Rattle.std.proofs.Common.{◌≡◌, ℕ, List, false, IsTrue, Some, sym, subst}
use Rattle.std.specs.Prelude.{Contains, ◌==◌}
use Rattle.vk_model.specs.declared.entry.Entry.{Entry}
use Rattle.vk_model.specs.Laws.{PiecesAreByteWrites}
use Rattle.vk_model.specs.Trace.Point.{Past}
use Rattle.vk_model.specs.World.Bytes.{Byte, resource_at}
use Rattle.vk_model.specs.World.ByteWrites.{ByteWrite, From}
use Rattle.vk_model.specs.Rules.Ids.{asked_by_command}
use Rattle.vk_model.specs.Run.Runs.{Name, is_done, offered, Stage}
use Rattle.vk_model.specs.Run.CachedRuns.{named_piece, write_to}
use Rattle.vk_model.specs.Run.Pieces.{pieces}
use Rattle.vk_model.specs.Sync.Node.{nodes}
use Rattle.vk_model.proofs.Lists.Members.{found}
use Rattle.std.proofs.lemmas.Bool.{eqb-true, not-true}
use Rattle.std.proofs.lemmas.Option.{slice_get_within}
use Rattle.vk_laws.specs.Machine.{Task}
use Rattle.vk_laws.specs.DefinedRuns.{IsPiece}
use Rattle.vk_laws.specs.DirectRuns.{is_made}
use Rattle.vk_laws.specs.Lifetimes.{is_live}
use Rattle.vk_laws.proofs.Caching.Named.{Names}
use Rattle.vk_laws.proofs.Running.StageTasks.{Known}
use Rattle.vk_laws.proofs.Running.AtStage.{AtPoint}
use Rattle.vk_laws.proofs.Running.OfferedPieces.{offered_of, is_piece}
use Rattle.vk_laws.proofs.DirectRuns.Inside.{piece_names}
use Rattle.vk_laws.proofs.Living.Unended.{unended}

module _ {t : List Entry} (known : Known t) (together : PiecesAreByteWrites) (s : Stage) (did : List Task) (i : AtPoint known s did) where
  abbrev past : Past
  past = s.front.past

  pub stay_live : (x : Name) (c : Byte) (w : ByteWrite) → IsTrue (is_done (offered past s.done) x) → write_to c (named_piece past x) ≡ Some w
      → IsTrue (is_made past c) × ((d : Byte) → w.source ≡ From d → IsTrue (is_made past d)) → IsTrue (is_live past c) × ((d : Byte) → w.source ≡ From d → IsTrue (is_live past d))
  stay_live x c w h is made_too = (lives c names.0 made_too.0, λ d e. lives d (names.1 d e) (made_too.1 d e))
    where
      p : IsPiece past x
      p = is_piece past s.done x h

      f : Contains (nodes past) p.node × IsTrue (p.node.number == x.0)
      f = found (λ n. n.number == x.0) (nodes past) p.node p.present

      names : Names (asked_by_command p.command) c × ((d : Byte) → w.source ≡ From d → Names (asked_by_command p.command) d)
      names = piece_names together past x p c w is

      left : is_done s.done (p.node.number, x.1) ≡ false
      left = subst (λ (k : ℕ). is_done s.done (k, x.1) ≡ false) (sym (eqb-true p.node.number x.0 f.1)) (not-true (is_done s.done x) (offered_of past s.done x h).fresh)

      lives : (d : Byte) → Names (asked_by_command p.command) d → IsTrue (is_made past d) → IsTrue (is_live past d)
      lives d named there = rw (unended known s did i p.node p.command x.1 f.0 p.act (slice_get_within (pieces past p.command) x.1 (named_piece past x) p.content) left (resource_at d) named.0 named.1) there
