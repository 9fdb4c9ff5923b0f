-- Each point of an ordered past without a fault may come next, on one of four queues.
use Rattle.std.proofs.Common.{◌≡◌, ℕ, ◌<◌, List, [], ◌∷◌, ◌++◌, length, Bool, true, false, IsTrue, refl, ap, sym, ◌∙◌, subst, arith}
use Rattle.std.specs.Prelude.{Contains, nat_lt}
use Rattle.std.proofs.lemmas.Bool.{ltb-false}
use Rattle.std.proofs.lemmas.List.{append_assoc}
use Rattle.vk_model.specs.declared.command.Cmd.{Cmd}
use Rattle.vk_model.specs.declared.entry.Batch.{Batch}
use Rattle.vk_model.specs.declared.entry.Entry.TheVariants as entry
use Rattle.vk_model.specs.declared.rule.Rule.TheVariants as rule
use Rattle.vk_model.specs.World.ByteWrites.{ByteWrite}
use Rattle.vk_model.specs.Trace.Point.{Past, Point, Action, Host, Wait, Run, Signal, host_of}
use Rattle.vk_model.specs.Trace.Order.{host}
use Rattle.vk_model.specs.Trace.Structure.{IsOfBatch, Follows, IsOrdered}
use Rattle.vk_model.specs.Sync.Node.{Act, Hosts, Waits, Signals, Runs, Depends}
use Rattle.vk_model.specs.Rules.Fault.{Comes, IsUnbroken}
use Rattle.vk_model.specs.Rules.Table.{breaks}
use Rattle.vk_model.specs.Run.Pieces.{pieces}
use Rattle.vk_model.proofs.Trace.Structure.{follows_at, is_of_batch}
use Rattle.vk_model.proofs.Trace.Older.{comes_of}
use Rattle.vk_queues.specs.Laws.{OrderedIsNew}
use Rattle.vk_laws.proofs.Nodes.Prefixes.{same_pieces}
use Rattle.vk_laws.proofs.Nodes.Steady.{new_ids, live_ids, comes_here, comes_within}
use Rattle.vk_offers.specs.IsOffers.{is_run, piece_count, PiecesStay, ComesNext}

-- the points before one break no rule either
pub unbroken_before : (all newer past : Past) → all ≡ newer ++ past → IsUnbroken all → IsUnbroken past
unbroken_before all newer past whole sound b q r h = sound b q r (comes_within all newer past whole b q h.0, h.1)

-- the pieces of what was there stay
pub pieces_stay : (past : Past) (p : Point) → IsUnbroken (p ∷ past) → PiecesStay past p
pieces_stay past p sound n c = go n.act refl
  where
    go : (a : Act) → n.act ≡ a → piece_count (p ∷ past) a ≡ piece_count past a
    go (Runs d) act = ap (λ (ps : List (List ByteWrite)). length ps) (same_pieces (p ∷ past) (p ∷ []) past refl (new_ids (p ∷ past) sound) (live_ids (p ∷ past) sound) n d c act)
    go (Hosts x) act = refl
    go (Waits s) act = refl
    go (Signals s) act = refl
    go (Depends r e) act = refl

-- a submit is to one of four queues
on_queue : (past : Past) (e q : ℕ) (bs : List Batch) → IsUnbroken past → Contains past (host e (entry.Submit q bs)) → q < 4
unfolding breaks
on_queue past e q bs sound c =
    let at = comes_of past (host e (entry.Submit q bs)) c in
    go (nat_lt 3 q) refl (λ h. sound at.0 (host e (entry.Submit q bs)) rule.Queue (at.1, h))
  where
    go : (b : Bool) → nat_lt 3 q ≡ b → (IsTrue (nat_lt 3 q) → ⊥) → q < 4
    go true over never = absurd (never over)
    go false within never = let least = ltb-false 3 q within in omega (arith, least)

pub comes_next : OrderedIsNew → (all newer past : Past) (p : Point) (count : ℕ) → IsUnbroken all → IsOrdered all → all ≡ newer ++ p ∷ past
    → ((c : Cmd) → p.action ≡ Run c → is_run c ≡ true → count ≡ length (pieces (p ∷ past) c)) → ComesNext past p count
comes_next news all newer past p count sound ordered whole counted = record {
  ordered = follows;
  new = news all past p ordered come;
  stay = pieces_stay past p then;
  queue = λ c is. on_queue past p.entry p.queue (of_batch c is).batches (unbroken_before (p ∷ past) (p ∷ []) past refl then) (of_batch c is).submitted;
  counted = counted;
}
  where
    come : Comes all past p
    come = subst (λ (l : Past). Comes l past p) (sym whole) (comes_here newer past p)

    follows : Follows past p p.action × IsOrdered past
    follows = follows_at all past p ordered come

    then : IsUnbroken (p ∷ past)
    then = unbroken_before all newer (p ∷ past) whole sound

    of_batch : (c : Cmd) → p.action ≡ Run c → IsOfBatch past p
    of_batch c is = is_of_batch past p p.action (ap host_of is) follows.0

-- each point is on one of four queues
pub on_queues : (all newer past : Past) (p : Point) → IsUnbroken all → IsOrdered all → all ≡ newer ++ p ∷ past → p.queue < 4
on_queues all newer past p sound ordered whole = go p.action (follows_at all past p ordered come).0
  where
    come : Comes all past p
    come = subst (λ (l : Past). Comes l past p) (sym whole) (comes_here newer past p)

    before_it : IsUnbroken past
    before_it = unbroken_before all (newer ++ p ∷ []) past (whole ∙ sym (append_assoc newer (p ∷ []) past)) sound

    go : (a : Action) → Follows past p a → p.queue < 4
    go (Host x) f = subst (λ (q : Point). q.queue < 4) (sym f) (omega arith)
    go (Wait s) f = on_queue past p.entry p.queue f.batches before_it f.submitted
    go (Run c) f = on_queue past p.entry p.queue f.batches before_it f.submitted
    go (Signal s) f = on_queue past p.entry p.queue f.batches before_it f.submitted
