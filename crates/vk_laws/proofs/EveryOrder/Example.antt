-- The example meets every premise of the law.
use Rattle.std.proofs.Common.{◌≡◌, ◌⊎◌, inl, inr, ⊎_elim, ℕ, zero, suc, false, IsTrue, [], ◌∷◌, Some, None, refl, sym, ap, subst, arith}
use Rattle.std.specs.Prelude.{◌&&◌, ◌==◌, nat_lt}
use Rattle.std.proofs.lemmas.Bool.{eqb-true}
use Rattle.vk_model.specs.World.Bytes.{Byte, in_buffer, in_image}
use Rattle.vk_model.specs.World.ByteWrites.{From}
use Rattle.vk_laws.specs.Machine.{IsIn, Task, Put, Puts, Writes, Reads, HazardFree, MayRun}
use Rattle.vk_model.specs.Run.Caches.{Clean, Dirty, Cell}
use Rattle.vk_laws.specs.Caches.{Touched, Dropped, WrittenBack, Loaded, CellRan, CacheFree, Seen, Reached, Start, Touch, Run}
use Rattle.vk_laws.specs.Commands.{IsCut}
use Rattle.vk_laws.specs.Example.{task, writes, reads, only_index, accesses, caching, effects, holding, with_original, when_filled, when_copied, MeetsPremises}
use Rattle.vk_laws.proofs.Accesses.TaskNodes.{same_task}
use Rattle.vk_laws.proofs.EveryOrder.Commands.{is_model}

-- ---- who writes and reads what

-- The node that writes a byte, if one does.
home : Byte → ℕ
home (in_buffer zero k) = 0
home (in_buffer (suc b) zero) = 3
home (in_buffer (suc b) (suc k)) = 4
home (in_image i a l x y p) = 0

writer : (n : ℕ) (c : Byte) (x : Put) → writes n c ≡ Some x → n ≡ home c
unfolding home
writer zero (in_buffer zero zero) x e = refl
writer (suc (suc (suc zero))) (in_buffer (suc zero) zero) x e = refl
writer (suc (suc (suc (suc zero)))) (in_buffer (suc zero) (suc zero)) x e = refl
writer _ _ x e = absurd cc

reader : (n : ℕ) (c : Byte) → IsTrue (reads n c) → (n ≡ 3) × (home c ≡ 0)
unfolding home
reader (suc (suc (suc zero))) (in_buffer zero zero) h = (refl, refl)
reader _ _ h = absurd cc

part_of_write : (n k : ℕ) (c : Byte) (x : Put) → only_index None (writes n c) k ≡ Some x → (k ≡ 0) × (writes n c ≡ Some x)
part_of_write n zero c x e = (refl, e)
part_of_write n (suc k) c x e = absurd cc

part_of_read : (n k : ℕ) (c : Byte) → IsTrue (only_index false (reads n c) k) → (k ≡ 0) × IsTrue (reads n c)
part_of_read n zero c h = (refl, h)
part_of_read n (suc k) c h = absurd cc

written_by : (t : Task) (c : Byte) → Writes accesses t c → (t.index ≡ 0) × (t.node ≡ home c)
written_by t c w = let p = part_of_write t.node t.index c w.0 w.1 in (p.0, writer t.node c w.0 p.1)

read_by : (t : Task) (c : Byte) → Reads accesses t c → (t.index ≡ 0) × (t.node ≡ 3) × (home c ≡ 0)
read_by t c r = let p = part_of_read t.node t.index c r in let q = reader t.node c p.1 in (p.0, q.0, q.1)

-- ---- the premises

goes_before : (a k b : ℕ) → a ≡ 0 → k ≡ 0 → b ≡ 3 → IsTrue (nat_lt a 5 && k == 0) × IsTrue (nat_lt a b && nat_lt b 4)
goes_before a k b e f g = rw (e, f, g) (refl, refl)

copy_writer : (n : ℕ) (c d : Byte) → writes n c ≡ Some (Puts (From d)) → IsTrue (reads n d)
copy_writer zero (in_buffer zero zero) d e = absurd cc
copy_writer (suc (suc (suc zero))) (in_buffer (suc zero) zero) d e = let same : in_buffer 0 0 ≡ d = cc in subst (λ (b : Byte). IsTrue (reads 3 b)) same refl
copy_writer (suc (suc (suc (suc zero)))) (in_buffer (suc zero) (suc zero)) d e = absurd cc
copy_writer _ _ d e = absurd cc

copies_what : (t : Task) (c d : Byte) → accesses.write_of t c ≡ Some (Puts (From d)) → Reads accesses t d
copies_what t c d e =
    let p = part_of_write t.node t.index c (Puts (From d)) e in
    subst (λ (k : ℕ). IsTrue (only_index false (reads t.node d) k)) (sym p.0) (copy_writer t.node c d p.1)

hazard_free : HazardFree accesses
hazard_free = record {
  ordered = λ s t c lt meet. ⊎_elim
      (λ wr. let w = written_by s c wr.0 in let r = read_by t c wr.1 in let h = r.2 in let z : s.node ≡ 0 = cc in goes_before s.node s.index t.node z w.0 r.1)
      (λ h. ⊎_elim
      (λ rw'. let r = read_by s c rw'.0 in let w = written_by t c rw'.1 in let g = r.2 in let z : t.node ≡ 0 = cc in absurd (omega arith))
      (λ ww. let v = written_by s c ww.0 in let w = written_by t c ww.1 in let z : s.node ≡ t.node = cc in absurd (omega arith)) h)
      meet;
  apart = λ s t c same w r. let v = written_by s c w in let u = read_by t c r in let z : t.node ≡ 0 = cc in omega arith;
  single = λ s t c same w w'. same_task s t same (let v = written_by s c w in let u = written_by t c w' in cc);
  source_read = copies_what;
}

cut : IsCut effects accesses
cut = record {
  within = λ t c x e. (part_of_write t.node t.index c x e).1;
  covered = λ n c x e. (task n, refl, e);
}

seen_by_copy : (w t : Task) (c : Byte) → w.index ≡ 0 → w.node ≡ 0 → t.node ≡ 3 → Seen accesses caching w t c
seen_by_copy w t c wp wn tn = record {
  p = task 1;
  q = task 2;
  available = rw (wp, wn) refl;
  order = inr (refl, refl);
  visible = rw tn refl;
  before = (refl, rw tn refl);
}

cache_free : CacheFree accesses caching
cache_free = record {
  seen_read = λ w t c lt wr r. let v = written_by w c wr in let u = read_by t c r in let h = u.2 in let z : w.node ≡ 0 = cc in inr (seen_by_copy w t c v.0 z u.1);
  seen_write = λ w t c lt wr wr'. let v = written_by w c wr in let u = written_by t c wr' in let z : w.node ≡ t.node = cc in absurd (omega arith);
  available_later = λ p w c h. later p.node p.index w.node w.index h;
}
  where
    later : (n k m l : ℕ) → IsTrue (n == 1 && k == 0 && m == 0 && l == 0) → IsTrue (nat_lt m 5 && l == 0) × IsTrue (nat_lt m n && nat_lt n 4)
    later n k m l h = (grind arith, grind arith)

-- ---- the run

-- A byte that is in no cache.
abbrev blank : Cell
blank = record { region = 0; held = λ a. None }

-- When queue 2 has loaded the byte, and when queue 1 has written its own back.
abbrev loaded : Cell
loaded = record { region = 0; held = holding None (Some (Clean 0)) }

abbrev filled : Cell
filled = record { region = 0; held = holding (Some (Dirty 7)) (Some (Clean 0)) }

abbrev home_again : Cell
home_again = record { region = 7; held = holding (Some (Clean 7)) (Some (Clean 0)) }

abbrev dropped_there : Cell
dropped_there = record { region = 7; held = holding (Some (Clean 7)) None }

-- What happens to the one byte, and nothing to the others.
touched_one : (old new : Cell) → Touched old new → (c : Byte) → Touched (with_original old c) (with_original new c)
touched_one old new touch (in_buffer zero zero) = touch
touched_one old new touch _ = Dropped refl (λ b. inl refl)

loads : Touched blank loaded
loads = Loaded 2 others refl refl refl
  where
    others : (b : ℕ) → (b ≡ 2 → ⊥) → holding None (Some (Clean 0)) b ≡ None
    others (suc (suc zero)) ne = absurd (ne refl)
    others _ ne = refl

writes_back : Touched filled home_again
writes_back = WrittenBack 1 7 others refl refl refl
  where
    others : (b : ℕ) → (b ≡ 1 → ⊥) → holding (Some (Clean 7)) (Some (Clean 0)) b ≡ holding (Some (Dirty 7)) (Some (Clean 0)) b
    others zero ne = refl
    others (suc zero) ne = absurd (ne refl)
    others (suc (suc zero)) ne = refl
    others (suc (suc (suc b))) ne = refl

drops : Touched home_again dropped_there
drops = Dropped refl each
  where
    each : (b : ℕ) → (holding (Some (Clean 7)) None b ≡ holding (Some (Clean 7)) (Some (Clean 0)) b) ⊎ (holding (Some (Clean 7)) None b ≡ None) × ((u : ℕ) → holding (Some (Clean 7)) (Some (Clean 0)) b ≡ Some (Dirty u) → ⊥)
    each zero = inl refl
    each (suc zero) = inl refl
    each (suc (suc zero)) = inr (refl, λ u e. cc)
    each (suc (suc (suc b))) = inl refl

fill_runs : (c : Byte) → CellRan (writes 0 c) 1 (with_original loaded) (with_original loaded c) (with_original filled c)
fill_runs (in_buffer zero zero) = record { others = others; mine = inl refl }
  where
    others : (b : ℕ) → (b ≡ 1 → ⊥) → holding (Some (Dirty 7)) (Some (Clean 0)) b ≡ holding None (Some (Clean 0)) b
    others zero ne = refl
    others (suc zero) ne = absurd (ne refl)
    others (suc (suc zero)) ne = refl
    others (suc (suc (suc b))) ne = refl
fill_runs _ = (refl, λ b. refl)

no_dirty : (c : Byte) (a u : ℕ) → (with_original home_again c).held a ≡ Some (Dirty u) → ⊥
no_dirty (in_buffer zero zero) (suc zero) u e = cc
no_dirty (in_buffer zero zero) (suc (suc zero)) u e = cc
no_dirty (in_buffer zero zero) _ u e = cc
no_dirty _ _ u e = cc

no_dirty_then : (c : Byte) (a u : ℕ) → (with_original dropped_there c).held a ≡ Some (Dirty u) → ⊥
no_dirty_then (in_buffer zero zero) (suc zero) u e = cc
no_dirty_then (in_buffer zero zero) (suc (suc zero)) u e = cc
no_dirty_then (in_buffer zero zero) _ u e = cc
no_dirty_then _ _ u e = cc

no_copy : (c : Byte) (u : ℕ) → (with_original dropped_there c).held 2 ≡ Some (Clean u) → ⊥
no_copy (in_buffer zero zero) u e = cc
no_copy _ u e = cc

first_may : MayRun accesses [] (task 0)
first_may = record { there = refl; fresh = λ h. h; after = λ s p. absurd (none s.node p.1) }
  where
    none : (n : ℕ) → IsTrue (nat_lt n 0 && nat_lt 0 4) → ⊥
    none n h = grind arith

second_may : MayRun accesses (task 0 ∷ []) (task 1)
second_may = record { there = refl; fresh = λ h. ⊎_elim (λ e. let f = ap (λ (t : Task). t.node) e in omega arith) (λ n. n) h; after = λ s p. go s.node s.index p.0 p.1 }
  where
    go : (n k : ℕ) → IsTrue (nat_lt n 5 && k == 0) → IsTrue (nat_lt n 1 && nat_lt 1 4) → IsIn (record { node = n; index = k }) (task 0 ∷ [])
    go zero zero h b = inl refl
    go (suc n) zero h b = absurd (grind arith)
    go n (suc k) h b = absurd (grind arith)

third_may : MayRun accesses (task 1 ∷ task 0 ∷ []) (task 2)
third_may = record { there = refl; fresh = fresh; after = λ s p. go s.node s.index p.0 p.1 }
  where
    fresh : IsIn (task 2) (task 1 ∷ task 0 ∷ []) → ⊥
    fresh h = ⊎_elim (λ e. let f = ap (λ (t : Task). t.node) e in omega arith) (λ h. ⊎_elim (λ e. let f = ap (λ (t : Task). t.node) e in omega arith) (λ n. n) h) h

    go : (n k : ℕ) → IsTrue (nat_lt n 5 && k == 0) → IsTrue (nat_lt n 2 && nat_lt 2 4) → IsIn (record { node = n; index = k }) (task 1 ∷ task 0 ∷ [])
    go zero zero h b = inr (inl refl)
    go (suc zero) zero h b = inl refl
    go (suc (suc n)) zero h b = absurd (grind arith)
    go n (suc k) h b = absurd (grind arith)

copy_may : MayRun accesses (task 2 ∷ task 1 ∷ task 0 ∷ []) (task 3)
copy_may = record { there = refl; fresh = fresh; after = λ s p. go s.node s.index p.0 p.1 }
  where
    fresh : IsIn (task 3) (task 2 ∷ task 1 ∷ task 0 ∷ []) → ⊥
    fresh h = ⊎_elim (λ e. let f = ap (λ (t : Task). t.node) e in omega arith)
        (λ h. ⊎_elim (λ e. let f = ap (λ (t : Task). t.node) e in omega arith) (λ h. ⊎_elim (λ e. let f = ap (λ (t : Task). t.node) e in omega arith) (λ n. n) h) h) h

    go : (n k : ℕ) → IsTrue (nat_lt n 5 && k == 0) → IsTrue (nat_lt n 3 && nat_lt 3 4) → IsIn (record { node = n; index = k }) (task 2 ∷ task 1 ∷ task 0 ∷ [])
    go zero zero h b = inr (inr (inl refl))
    go (suc zero) zero h b = inr (inl refl)
    go (suc (suc zero)) zero h b = inl refl
    go (suc (suc (suc n))) zero h b = absurd (grind arith)
    go n (suc k) h b = absurd (grind arith)

other_may : MayRun accesses [] (task 4)
other_may = record { there = refl; fresh = λ h. h; after = λ s p. absurd (none s.node p.1) }
  where
    none : (n : ℕ) → IsTrue (nat_lt n 4 && nat_lt 4 4) → ⊥
    none n h = grind arith

stale : Reached accesses caching (task 0 ∷ []) when_filled
stale =
    Run [] (task 0) (with_original loaded) (with_original filled)
    (Touch [] (with_original blank) (with_original loaded) (Start (with_original blank) empty) (touched_one blank loaded loads))
    first_may (record { written_back = λ c w u e f h. absurd cc; dropped = λ c a u d h. absurd cc }) fill_runs
  where
    empty : (c : Byte) (a : ℕ) → (with_original blank c).held a ≡ None
    empty (in_buffer zero zero) a = refl
    empty _ a = refl

signaled : Reached accesses caching (task 1 ∷ task 0 ∷ []) (with_original home_again)
signaled =
    Run (task 0 ∷ []) (task 1) (with_original home_again) (with_original home_again)
    (Touch (task 0 ∷ []) when_filled (with_original home_again) stale (touched_one filled home_again writes_back))
    second_may (record { written_back = λ c w u e f h. no_dirty c (caching.agent w) u h; dropped = λ c a u d h. absurd cc }) (λ c. (refl, λ b. refl))

ready : Reached accesses caching (task 2 ∷ task 1 ∷ task 0 ∷ []) when_copied
ready =
    Run (task 1 ∷ task 0 ∷ []) (task 2) (with_original dropped_there) (with_original dropped_there)
    (Touch (task 1 ∷ task 0 ∷ []) (with_original home_again) (with_original dropped_there) signaled (touched_one home_again dropped_there drops))
    third_may
    (record {
      written_back = λ c w u e f h. no_dirty_then c (caching.agent w) u h;
      dropped = λ c a u d h. let e : a ≡ 2 = eqb-true a 2 d in no_copy c u (subst (λ (b : ℕ). (with_original dropped_there c).held b ≡ Some (Clean u)) e h);
    })
    (λ c. (refl, λ b. refl))

pub meets_premises : MeetsPremises
meets_premises = record {
  hazard_free = hazard_free;
  cache_free = cache_free;
  is_model = is_model effects accesses cut;
  stale = (stale, refl);
  ready = ready;
  next = copy_may;
  reads_original = refl;
  defined = refl;
  other_first = other_may;
}
