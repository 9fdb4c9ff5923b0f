-- What a run has reached it has reached in the longer trace too.
use Rattle.std.proofs.Common.{◌≡◌, inl, inr, ℕ, ◌<◌, IsTrue, Bool, List, [], ◌∷◌, Option, Some, None, refl, sym, ◌∙◌, subst, true, false, arith}
use Rattle.vk_model.specs.World.Bytes.{Byte}
use Rattle.vk_laws.specs.Machine.{IsIn, Task, Put, TraceAccesses, Precedes, MayRun, newest, latest}
use Rattle.vk_model.specs.Run.Caches.{Dirty, Cell}
use Rattle.vk_laws.specs.Caches.{CellRan, Caching, Guard, Reached, Start, Touch, Run}
use Rattle.vk_laws.specs.Growth.{Extends, IsTransitive, IsDue, IsEager}

module _ (size : ℕ) (tr : TraceAccesses) (ca : Caching) (tr' : TraceAccesses) (ca' : Caching) (ext : Extends size tr ca tr' ca') where
  abbrev AllOld : List Task → Type 0
  AllOld done = (s : Task) → IsIn s done → s.node < size

  may_too : (done : List Task) (t : Task) → t.node < size → MayRun tr done t → MayRun tr' done t
  may_too done t lt may = record {
    there = subst (λ (x : Bool). IsTrue x) (sym (ext.has t lt)) may.there;
    fresh = may.fresh;
    after = λ s p.
        let below = ext.forward s.node t.node p.1 in
        may.after s (subst (λ (x : Bool). IsTrue x) (ext.has s (omega arith)) p.0, subst (λ (x : Bool). IsTrue x) (ext.before s.node t.node lt) p.1);
  }

  latest_too : (done : List Task) (c : Byte) → AllOld done → latest tr' c done ≡ latest tr c done
  latest_too [] c old = refl
  latest_too (t ∷ done) c old = rw (ext.write_of t c (old t (inl refl)), latest_too done c (λ s h. old s (inr h))) refl

  was_done : (done : List Task) (c : Byte) (w : Task) → AllOld done → latest tr c done ≡ Some w → w.node < size
  was_done [] c w old e = absurd cc
  was_done (t ∷ done) c w old e = go (was_done done c w (λ s h. old s (inr h))) (tr.write_of t c) e
    where
      go : (latest tr c done ≡ Some w → w.node < size) → (o : Option Put) → newest o t (latest tr c done) ≡ Some w → w.node < size
      go rest None e = rest e
      go rest (Some s) e = let same : t ≡ w = cc in subst (λ (x : Task). x.node < size) same (old t (inl refl))

  guard_too : (done : List Task) (cells : Byte → Cell) (t : Task) → AllOld done → t.node < size → Guard tr ca done cells t → Guard tr' ca' done cells t
  guard_too done cells t old lt guard = record {
    written_back = λ c w u e f held.
        let e' : latest tr c done ≡ Some w = sym (latest_too done c old) ∙ e in
        guard.written_back c w u e' (subst (λ (x : Bool). IsTrue x) (ext.makes_available t w c lt) f)
        (subst (λ (a : ℕ). (cells c).held a ≡ Some (Dirty u)) (ext.agent w (was_done done c w old e')) held);
    dropped = λ c a u d held. guard.dropped c a u (subst (λ (x : Bool). IsTrue x) (ext.makes_visible t a c lt) d) held;
  }

  all_old : (done : List Task) (cells : Byte → Cell) → Reached tr ca done cells → AllOld done
  all_old done cells (Start _ none) = λ s h. absurd h
  all_old done cells (Touch _ before _ r touch) = all_old done before r
  all_old done cells (Run d t before _ r may guard ran) = λ s h. go (all_old d before r) s h
    where
      go : AllOld d → (s : Task) → IsIn s (t ∷ d) → s.node < size
      go rest s (inl e) = subst (λ (x : Task). x.node < size) (sym e) (ext.old t may.there)
      go rest s (inr h) = rest s h

  pub reached_too : (done : List Task) (cells : Byte → Cell) → Reached tr ca done cells → Reached tr' ca' done cells
  reached_too done cells (Start _ none) = Start cells none
  reached_too done cells (Touch _ before _ r touch) = Touch done before cells (reached_too done before r) touch
  reached_too done cells (Run d t before _ r may guard ran) =
      let lt = ext.old t may.there in
      Run d t before cells (reached_too d before r) (may_too d t lt may) (guard_too d before t (all_old d before r) lt guard)
      (λ c. subst (λ (a : ℕ). CellRan (tr'.write_of t c) a before (before c) (cells c)) (sym (ext.agent t lt)) (subst (λ (o : Option Put). CellRan o (ca.agent t) before (before c) (cells c)) (sym (ext.write_of t c lt)) (ran c)))

-- Where events happen as soon as they can, a task waits for pieces and host entries alone.
pub may_run : (tr : TraceAccesses) (is_event : Task → Bool) (done : List Task) (t : Task) → IsTransitive tr → IsEager tr is_event done
    → IsTrue (tr.has t) → (IsIn t done → ⊥) → IsDue tr is_event done t → MayRun tr done t
may_run tr is_event done t transitive eager there fresh due = record { there = there; fresh = fresh; after = λ s p. go s p (is_event s) refl }
  where
    go : (s : Task) → Precedes tr s t → (b : Bool) → is_event s ≡ b → IsIn s done
    go s p false e = due s e p
    go s p true e = eager s e p.0 (λ r piece q. due r piece (q.0, transitive r.node s.node t.node q.1 p.1))
