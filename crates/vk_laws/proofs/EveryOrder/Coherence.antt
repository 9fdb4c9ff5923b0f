-- In an allowed run each byte has one value, which is the model's where that is defined, and which is visible to every agent that it was made visible to.
use Rattle.std.proofs.Common.{◌≡◌, ◌⊎◌, inl, inr, ⊎_elim, ℕ, suc, ◌<◌, IsTrue, List, ◌∷◌, Option, Some, None, refl, sym, ap, ◌∙◌, subst, eq-or-lt_of_le}
use Rattle.std.proofs.lemmas.Bool.{cases_lt}
use Rattle.vk_model.specs.World.Bytes.{Byte}
use Rattle.vk_model.specs.World.ByteWrites.{Value, From}
use Rattle.vk_laws.specs.Machine.{IsIn, Task, Put, Puts, Unknown, TraceAccesses, Writes, Reads, Precedes, HazardFree, MayRun, IsAllowed, IsModel, newest, latest}
use Rattle.vk_model.specs.Run.Caches.{Dirty, Cell, view}
use Rattle.vk_laws.specs.Caches.{Wrote, CellRan, Caching, CacheFree, Guard, Reached, Start, Touch, Run}
use Rattle.vk_laws.proofs.EveryOrder.Coherent.{Stores, Follows, CellOk, owner_of, MadeAvailable, MadeVisible, Coherent}
use Rattle.vk_laws.proofs.EveryOrder.Fresh.{closed, later_not_done, latest_in, fresh_at, follows_step}
use Rattle.vk_laws.proofs.EveryOrder.Cells.{view_ok, touched_ok, left_ok, written_ok, event_ok, first_ok}

-- the value of a byte after a task
next : (o : Option (Put)) (a : ℕ) (cells : Byte → Cell) (old new : Cell) → CellRan o a cells old new → (Byte → ℕ) → ℕ → ℕ
next None a cells old new r m was = was
next (Some (Puts (Value k))) a cells old new r m was = k
next (Some (Puts (From d))) a cells old new r m was = m d
next (Some Unknown) a cells old new r m was = r.0

next_stores : (o : Option (Put)) (a : ℕ) (cells : Byte → Cell) (old new : Cell) (r : CellRan o a cells old new) (m : Byte → ℕ) (was : ℕ) → Stores o m was (next o a cells old new r m was)
unfolding next
next_stores None a cells old new r m was = refl
next_stores (Some (Puts (Value k))) a cells old new r m was = refl
next_stores (Some (Puts (From d))) a cells old new r m was = refl
next_stores (Some Unknown) a cells old new r m was = tt

module _ (tr : TraceAccesses) (ca : Caching) where
  pub allowed : (done : List Task) (cells : Byte → Cell) → Reached tr ca done cells → IsAllowed tr done
  allowed done cells (Start _ none) = tt
  allowed done cells (Touch _ old _ r touch) = allowed done old r
  allowed done cells (Run d t old _ r may guard ran) = (may, allowed d old r)

module _ (tr : TraceAccesses) (ca : Caching) (free : HazardFree tr) (cache : CacheFree tr ca) where
  -- the last write is earlier than a task that may come next and accesses the byte
  pub is_earlier : (done : List Task) (t w : Task) (c : Byte) → IsAllowed tr done → MayRun tr done t → latest tr c done ≡ Some w → Reads tr t c ⊎ Writes tr t c → (w.node < t.node) × Writes tr w c
  is_earlier done t w c ok may e access =
      let r = latest_in tr done c w e in
      ⊎_elim (λ lt. (lt, r.1))
      (λ le. absurd (⊎_elim
      (λ same. ⊎_elim (λ reads. free.apart w t c (sym same) r.1 reads) (λ writes. may.fresh (subst (λ (u : Task). IsIn u done) (free.single w t c (sym same) r.1 writes) r.0)) access)
      (λ lt. later_not_done tr free done t w c ok may lt (⊎_elim (λ reads. inr (inl (reads, r.1))) (λ writes. inr (inr (writes, r.1))) access) r.0)
      (eq-or-lt_of_le le)))
      (cases_lt (w.node) (t.node))

  pub first_done : (done : List Task) (p q : Task) → IsAllowed tr done → (p ≡ q) ⊎ Precedes tr p q → IsIn q done → IsIn p done
  first_done done p q ok order h = ⊎_elim (λ same. subst (λ (u : Task). IsIn u done) (sym same) h) (λ before. closed tr done ok q p h before) order

  pub visible_for : (done : List Task) (t : Task) (c : Byte) → IsAllowed tr done → MayRun tr done t → Reads tr t c → MadeVisible tr ca done c (latest tr c done) (ca.agent t)
  visible_for done t c ok may reads = go (latest tr c done) refl
    where
      go : (l : Option Task) → latest tr c done ≡ l → MadeVisible tr ca done c l (ca.agent t)
      go None e = tt
      go (Some w) e =
          let i = is_earlier done t w c ok may e (inl reads) in
          ⊎_elim (λ self. inl self)
          (λ s. let q_done = may.after s.q s.before in inr (s.p, s.q, first_done done s.p s.q ok s.order q_done, q_done, s.available, s.order, s.visible))
          (cache.seen_read w t c i.0 i.1 reads)

  available_for : (done : List Task) (t : Task) (c : Byte) → IsAllowed tr done → MayRun tr done t → Writes tr t c → (owner_of tr ca (latest tr c done) ≡ Some (ca.agent t)) ⊎ MadeAvailable tr ca done c (latest tr c done)
  available_for done t c ok may writes = go (latest tr c done) refl
    where
      go : (l : Option Task) → latest tr c done ≡ l → (owner_of tr ca l ≡ Some (ca.agent t)) ⊎ MadeAvailable tr ca done c l
      go None e = inr tt
      go (Some w) e =
          let i = is_earlier done t w c ok may e (inr writes) in
          ⊎_elim (λ self. inl (ap Some self)) (λ s. inr (s.p, may.after s.p s.before, s.available)) (cache.seen_write w t c i.0 i.1 writes)

  -- no task done so far makes available what is written now
  not_available : (done : List Task) (t : Task) (c : Byte) → IsAllowed tr done → MayRun tr done t → MadeAvailable tr ca (t ∷ done) c (Some t) → ⊥
  not_available done t c ok may f =
      let later = cache.available_later f.0 t c f.2 in
      may.fresh (⊎_elim (λ same. may.after t (subst (λ (u : Task). Precedes tr t u) same later)) (λ h. closed tr done ok f.0 t h later) f.1)

  to_self : (done : List Task) (t : Task) (c : Byte) → IsAllowed tr done → MayRun tr done t → (b : ℕ) → MadeVisible tr ca (t ∷ done) c (Some t) b → ca.agent t ≡ b
  to_self done t c ok may b s = ⊎_elim (λ self. self) (λ h. absurd (not_available done t c ok may (h.0, h.2, h.4))) s

  event_at : (done : List Task) (t : Task) (cells : Byte → Cell) (c : Byte) (x : ℕ) → IsAllowed tr done → MayRun tr done t → Guard tr ca done cells t → (l : Option Task) → latest tr c done ≡ l
      → CellOk x (cells c) (owner_of tr ca l) (MadeAvailable tr ca done c l) (MadeVisible tr ca done c l) → CellOk x (cells c) (owner_of tr ca l) (MadeAvailable tr ca (t ∷ done) c l) (MadeVisible tr ca (t ∷ done) c l)
  event_at done t cells c x ok may guard None e old = old
  event_at done t cells c x ok may guard (Some w) e old =
      event_ok x (cells c) (Some (ca.agent w)) (MadeAvailable tr ca done c (Some w)) (MadeVisible tr ca done c (Some w)) old (MadeAvailable tr ca (t ∷ done) c (Some w)) (MadeVisible tr ca (t ∷ done) c (Some w))
      (λ f. ⊎_elim
      (λ same. inr (λ a u own held. let self : ca.agent w ≡ a = cc in guard.written_back c w u e (subst (λ (p : Task). IsTrue (ca.makes_available p w c)) same f.2) (subst (λ (b : ℕ). (cells c).held b ≡ Some (Dirty u)) (sym self) held)))
      (λ h. inl (f.0, h, f.2)) f.1)
      (λ a s. ⊎_elim (λ self. inl (inl self))
      (λ h. ⊎_elim
      (λ same. inr (λ u held. guard.dropped c a u (subst (λ (q : Task). IsTrue (ca.makes_visible q a c)) same h.6) held))
      (λ q_done. inl (inr (h.0, h.1, first_done done h.0 h.1 ok h.5 q_done, q_done, h.4, h.5, h.6)))
      h.3) s)
      (λ a s. ⊎_elim (λ self. inl (ap Some self)) (λ h. inr (h.0, h.2, h.4)) s)

  coherent_do : (done : List Task) (t : Task) (cells new : Byte → Cell) (m : Byte → ℕ) → IsAllowed tr done → MayRun tr done t → Guard tr ca done cells t → Coherent tr ca done cells m → (ran : (c : Byte) → CellRan (tr.write_of t c) (ca.agent t) cells (cells c) (new c))
      → Coherent tr ca (t ∷ done) new (λ c. next (tr.write_of t c) (ca.agent t) cells (cells c) (new c) (ran c) m (m c))
  unfolding next
  coherent_do done t cells new m ok may guard all ran c = go (tr.write_of t c) refl (ran c)
    where
      write : (y : ℕ) → Writes tr t c → Wrote (ca.agent t) y (cells c) (new c) → CellOk y (new c) (Some (ca.agent t)) (MadeAvailable tr ca (t ∷ done) c (Some t)) (MadeVisible tr ca (t ∷ done) c (Some t))
      write y w wrote =
          written_ok (m c) (cells c) (owner_of tr ca (latest tr c done)) (MadeAvailable tr ca done c (latest tr c done)) (MadeVisible tr ca done c (latest tr c done)) (all c)
          (ca.agent t) y (new c) (MadeAvailable tr ca (t ∷ done) c (Some t)) (MadeVisible tr ca (t ∷ done) c (Some t)) (available_for done t c ok may w) (not_available done t c ok may) (to_self done t c ok may) wrote

      go : (o : Option (Put)) → tr.write_of t c ≡ o → (r : CellRan o (ca.agent t) cells (cells c) (new c))
          → CellOk (next o (ca.agent t) cells (cells c) (new c) r m (m c)) (new c) (owner_of tr ca (newest o t (latest tr c done))) (MadeAvailable tr ca (t ∷ done) c (newest o t (latest tr c done))) (MadeVisible tr ca (t ∷ done) c (newest o t (latest tr c done)))
      go None e r =
          left_ok (m c) (cells c) (owner_of tr ca (latest tr c done)) (MadeAvailable tr ca (t ∷ done) c (latest tr c done)) (MadeVisible tr ca (t ∷ done) c (latest tr c done))
          (event_at done t cells c (m c) ok may guard (latest tr c done) refl (all c)) (new c) r.0 r.1
      go (Some (Puts (Value k))) e r = write k (Puts (Value k), e) r
      go (Some (Puts (From d))) e r =
          let is = view_ok (m d) (cells d) (owner_of tr ca (latest tr d done)) (MadeAvailable tr ca done d (latest tr d done)) (MadeVisible tr ca done d (latest tr d done)) (all d) (ca.agent t) (visible_for done t d ok may (free.source_read t c d e)) in
          write (m d) (Puts (From d), e) (subst (λ (y : ℕ). Wrote (ca.agent t) y (cells c) (new c)) is r)
      go (Some Unknown) e r = write r.0 (Unknown, e) r.1

  module _ (value : ℕ → Byte → Option ℕ) (model : IsModel tr value) where
    -- some bytes that follow the model, and that the caches agree with
    pub record Good (done : List Task) (cells : Byte → Cell) : Type 0 where
      pub memory : Byte → ℕ
      pub follows : Follows tr value done memory
      pub coherent : Coherent tr ca done cells memory

    pub good : (done : List Task) (cells : Byte → Cell) → Reached tr ca done cells → Good done cells
    good done cells (Start _ none) = record { memory = λ c. (cells c).region; follows = λ c w v is h. absurd cc; coherent = λ c. first_ok (cells c) (none c) }
    good done cells (Touch _ old _ r touch) = after (good done old r)
      where
        after : Good done old → Good done cells
        after g = record {
          memory = g.memory;
          follows = g.follows;
          coherent = λ c. touched_ok (g.memory c) (old c) (owner_of tr ca (latest tr c done)) (MadeAvailable tr ca done c (latest tr c done)) (MadeVisible tr ca done c (latest tr c done)) (g.coherent c) (cells c) (touch c);
        }
    good done cells (Run d t old _ r may guard ran) = after (good d old r) (allowed tr ca d old r)
      where
        after : Good d old → IsAllowed tr d → Good (t ∷ d) cells
        after g ok =
            let m' : Byte → ℕ = λ c. next (tr.write_of t c) (ca.agent t) old (old c) (cells c) (ran c) g.memory (g.memory c) in
            record {
              memory = m';
              follows = follows_step tr free value model d t g.memory m' ok may g.follows (λ c. next_stores (tr.write_of t c) (ca.agent t) old (old c) (cells c) (ran c) g.memory (g.memory c));
              coherent = coherent_do d t old cells g.memory ok may guard g.coherent ran;
            }

    view_at : (done : List Task) (cells : Byte → Cell) (g : Good done cells) (a : ℕ) (c : Byte) → MadeVisible tr ca done c (latest tr c done) a → view a (cells c) ≡ g.memory c
    view_at done cells g a c s = view_ok (g.memory c) (cells c) (owner_of tr ca (latest tr c done)) (MadeAvailable tr ca done c (latest tr c done)) (MadeVisible tr ca done c (latest tr c done)) (g.coherent c) a s

    -- What a task reads is the model's.
    pub fresh : (done : List Task) (cells : Byte → Cell) (t : Task) (c : Byte) (v : ℕ) → Reached tr ca done cells → MayRun tr done t → Reads tr t c → value (t.node) c ≡ Some v → view (ca.agent t) (cells c) ≡ v
    fresh done cells t c v r may reads h =
        let g = good done cells r in
        let ok = allowed tr ca done cells r in
        view_at done cells g (ca.agent t) c (visible_for done t c ok may reads) ∙ fresh_at tr free value model done t g.memory c v ok may g.follows reads h

    -- what was written last
    pub wrote : (done : List Task) (cells : Byte → Cell) (w : Task) (c : Byte) (v : ℕ) → Reached tr ca done cells → latest tr c done ≡ Some w → value (suc (w.node)) c ≡ Some v → view (ca.agent w) (cells c) ≡ v
    wrote done cells w c v r is h =
        let g = good done cells r in
        view_at done cells g (ca.agent w) c (subst (λ (l : Option Task). MadeVisible tr ca done c l (ca.agent w)) (sym is) (inl refl)) ∙ g.follows c w v is h
