-- Before a task every access that meets it is settled, so what it reads is the model's.
use Rattle.std.proofs.Common.{◌≡◌, inl, inr, ⊎_elim, ℕ, zero, suc, ◌+◌, ◌-◌, ◌<◌, ◌≤◌, List, [], ◌∷◌, Option, Some, None, refl, sym, ap, ◌∙◌, subst, arith, eq-or-lt_of_le, IsTrue}
use Rattle.std.proofs.lemmas.Bool.{cases_lt, ltb-true, lt-ltb}
use Rattle.std.specs.Prelude.{nat_lt, ◌↔◌}
use Rattle.vk_model.specs.World.Bytes.{Byte}
use Rattle.vk_model.specs.World.ByteWrites.{Value, From}
use Rattle.vk_laws.specs.Machine.{IsIn, Task, Put, Puts, Unknown, TraceAccesses, Writes, Reads, Precedes, Conflict, HazardFree, MayRun, IsAllowed, put_value, IsModel, newest, latest}
use Rattle.vk_laws.proofs.EveryOrder.Coherent.{Stores, Settled, Follows}
use Rattle.vk_laws.specs.EveryOrder.{IsSettled}

pub none_unless : {A : Type 0} (o : Option A) → ((x : A) → o ≡ Some x → ⊥) → o ≡ None
none_unless None h = refl
none_unless (Some x) h = absurd (h x refl)

module _ (tr : TraceAccesses) where
  pub latest_in : (done : List Task) (c : Byte) (w : Task) → latest tr c done ≡ Some w → IsIn w done × Writes tr w c
  latest_in [] c w e = absurd cc
  latest_in (t ∷ done) c w e = go (latest_in done c w) (tr.write_of t c) refl e
    where
      go : (latest tr c done ≡ Some w → IsIn w done × Writes tr w c) → (o : Option (Put)) → tr.write_of t c ≡ o → newest o t (latest tr c done) ≡ Some w → IsIn w (t ∷ done) × Writes tr w c
      go rest None h e = let r = rest e in (inr r.0, r.1)
      go rest (Some s) h e = let same : t ≡ w = cc in (inl (sym same), subst (λ (u : Task). Writes tr u c) same (s, h))

  latest_none : (done : List Task) (c : Byte) (s : Task) → latest tr c done ≡ None → IsIn s done → Writes tr s c → ⊥
  latest_none [] c s e h w = h
  latest_none (t ∷ done) c s e h w = go (latest_none done c s) (tr.write_of t c) refl e
    where
      go : (latest tr c done ≡ None → IsIn s done → Writes tr s c → ⊥) → (o : Option (Put)) → tr.write_of t c ≡ o → newest o t (latest tr c done) ≡ None → ⊥
      go rest None is e = ⊎_elim (λ same. let x : tr.write_of s c ≡ None = ap (λ (u : Task). tr.write_of u c) same ∙ is in let y = w.1 in cc) (λ h. rest e h w) h
      go rest (Some x) is e = cc

  -- what comes before a done task is done
  pub closed : (done : List Task) → IsAllowed tr done → (s r : Task) → IsIn s done → Precedes tr r s → IsIn r done
  closed [] ok s r h p = absurd h
  closed (t ∷ done) ok s r (inl e) p = inr (ok.0.after r (subst (λ (x : Task). Precedes tr r x) e p))
  closed (t ∷ done) ok s r (inr h) p = inr (closed done ok.1 s r h p)

module _ (tr : TraceAccesses) (free : HazardFree tr) where
  -- Of the accesses that meet a task's own, the earlier ones are done, and the later ones aren't
  pub earlier_done : (done : List Task) (t s : Task) (c : Byte) → MayRun tr done t → s.node < t.node → Conflict tr s t c → IsIn s done
  earlier_done done t s c may lt meet = may.after s (free.ordered s t c lt meet)

  pub later_not_done : (done : List Task) (t s : Task) (c : Byte) → IsAllowed tr done → MayRun tr done t → t.node < s.node → Conflict tr t s c → IsIn s done → ⊥
  later_not_done done t s c ok may lt meet h = may.fresh (closed tr done ok s t h (free.ordered t s c lt meet))

  pub settled_for : (done : List Task) (t : Task) (c : Byte) → IsAllowed tr done → MayRun tr done t → Reads tr t c → Settled tr done c (t.node)
  settled_for done t c ok may r = record {
    earlier = λ s lt w. earlier_done done t s c may lt (inl (w, r));
    later = λ s le w h. ⊎_elim
        (λ e. free.apart s t c (sym e) w r)
        (λ lt. later_not_done done t s c ok may lt (inr (inl (r, w))) h)
        (eq-or-lt_of_le le);
  }

  -- the last write in the run is the last of those done in reference order
  pub latest_most : (done : List Task) (c : Byte) (w s : Task) → IsAllowed tr done → latest tr c done ≡ Some w → IsIn s done → Writes tr s c → s.node ≤ w.node
  latest_most [] c w s ok e h wr = absurd h
  latest_most (t ∷ done) c w s ok e h wr = go (latest_most done c w s ok.1) (tr.write_of t c) refl e
    where
      go : (latest tr c done ≡ Some w → IsIn s done → Writes tr s c → s.node ≤ w.node) → (o : Option (Put)) → tr.write_of t c ≡ o → newest o t (latest tr c done) ≡ Some w → s.node ≤ w.node
      go rest None is e = ⊎_elim (λ same. let x : tr.write_of s c ≡ None = ap (λ (u : Task). tr.write_of u c) same ∙ is in let y = wr.1 in absurd cc) (λ h. rest e h wr) h
      go rest (Some x) is e =
          let here : t ≡ w = cc in
          let at = ap (λ (u : Task). u.node) here in
          ⊎_elim (λ same. let at' = ap (λ (u : Task). u.node) same in omega arith)
          (λ h. ⊎_elim (λ lt. absurd (later_not_done done t s c ok.1 ok.0 lt (inr (inr ((x, is), wr))) h)) (λ le. omega arith) (cases_lt (t.node) (s.node))) h

  module _ (value : ℕ → Byte → Option ℕ) (model : IsModel tr value) where
    -- without a writer from b up to n, the value at n is that at b
    back : (c : Byte) (v b k n : ℕ) → n ≡ k + b → ((s : Task) → b ≤ s.node → s.node < n → tr.write_of s c ≡ None) → value n c ≡ Some v → value b c ≡ Some v
    back c v b zero n e none h = let e' : n ≡ b = omega arith in subst (λ (i : ℕ). value i c ≡ Some v) e' h
    back c v b (suc k) n e none h =
        let e' : n ≡ suc (k + b) = omega arith in
        back c v b k (k + b) refl
        (λ s le lt. none s le (omega arith))
        (model.kept (k + b) c v (λ s e. none s (omega arith) (omega arith)) (subst (λ (i : ℕ). value i c ≡ Some v) e' h))

    -- where a byte is settled before a node, it has the model's value there
    pub settled_at : (done : List Task) (m : Byte → ℕ) (c : Byte) (v n : ℕ) → IsAllowed tr done → Settled tr done c n → Follows tr value done m → value n c ≡ Some v → m c ≡ v
    settled_at done m c v n ok st f h = go (latest tr c done) refl
      where
        go : (l : Option Task) → latest tr c done ≡ l → m c ≡ v
        go None e =
            let none = back c v 0 n n (omega arith) (λ s le lt. none_unless (tr.write_of s c) (λ x w. latest_none tr done c s e (st.earlier s lt (x, w)) (x, w))) h in
            let u = model.undefined c in absurd cc
        go (Some w) e =
            let is = latest_in tr done c w e in
            let lt : w.node < n = ⊎_elim (λ lt. lt) (λ le. absurd (st.later w le is.1 is.0)) (cases_lt (w.node) n) in
            f c w v e (back c v (suc (w.node)) (n - suc (w.node)) n (omega arith)
            (λ s le lt. none_unless (tr.write_of s c) (λ x wr. let most = latest_most done c w s ok e (st.earlier s lt (x, wr)) (x, wr) in omega arith)) h)

    -- A task reads the model's bytes
    pub fresh_at : (done : List Task) (t : Task) (m : Byte → ℕ) (c : Byte) (v : ℕ) → IsAllowed tr done → MayRun tr done t → Follows tr value done m → Reads tr t c → value (t.node) c ≡ Some v → m c ≡ v
    fresh_at done t m c v ok may f r h = settled_at done m c v (t.node) ok (settled_for done t c ok may r) f h

    source_of : (done : List Task) (t : Task) (c : Byte) (m : Byte → ℕ) (new v : ℕ) (s : Put) → IsAllowed tr done → MayRun tr done t → Follows tr value done m → tr.write_of t c ≡ Some s → Stores (Some s) m (m c) new → put_value s (value (t.node)) ≡ Some v → new ≡ v
    source_of done t c m new v (Puts (Value k)) ok may f e st h = cc
    source_of done t c m new v (Puts (From d)) ok may f e st h = st ∙ fresh_at done t m d v ok may f (free.source_read t c d e) h
    source_of done t c m new v Unknown ok may f e st h = absurd cc

    -- each step keeps it
    pub follows_step : (done : List Task) (t : Task) (m m' : Byte → ℕ) → IsAllowed tr done → MayRun tr done t → Follows tr value done m → ((c : Byte) → Stores (tr.write_of t c) m (m c) (m' c)) → Follows tr value (t ∷ done) m'
    follows_step done t m m' ok may f st c w v is h = go (tr.write_of t c) refl (st c) is
      where
        go : (o : Option (Put)) → tr.write_of t c ≡ o → Stores o m (m c) (m' c) → newest o t (latest tr c done) ≡ Some w → m' c ≡ v
        go None e st is = st ∙ f c w v is h
        go (Some s) e st is =
            let same : w ≡ t = cc in
            source_of done t c m (m' c) v s ok may f e st (model.written t c s v e (subst (λ (u : Task). value (suc (u.node)) c ≡ Some v) same h))

-- of two tasks of other nodes whose accesses conflict, the earlier is done when the later may come
pub done_by_number : (tr : TraceAccesses) (done : List Task) (s t : Task) (c : Byte) → IsSettled tr done t → (s.node ≡ t.node → ⊥) → Conflict tr s t c → Conflict tr t s c → IsTrue (nat_lt s.node t.node) ↔ IsIn s done
done_by_number tr done s t c settled ne meet back = (
  λ h. let lt = ltb-true s.node t.node h in settled.earlier s c lt meet,
  λ h. lt-ltb s.node t.node
      (⊎_elim (λ lt. lt) (λ le. absurd (settled.later s c (⊎_elim (λ lt. lt) (λ le'. absurd (ne (omega arith))) (cases_lt t.node s.node)) back h)) (cases_lt s.node t.node)),
)
