-- Two ranges, and ranges one after another, with one more or some fewer. Other crates cite it.
use Rattle.std.proofs.Common.{◌≡◌, ◌⊎◌, inl, inr, ℕ, ◌+◌, ◌<◌, ◌≤◌, List, [], ◌∷◌, ◌++◌, length, Bool, true, false, refl, ap, arith, cond}
use Rattle.std.specs.List.{filter}
use Rattle.std.proofs.lemmas.Bool.{eqb-true, cases_lt, lt-ltb}
use Rattle.vk_model.specs.Memory.Suballocation.{Taken, ranges_meet}
use Rattle.vk_model.specs.Memory.Room.{end_after, first_start, last_start, is_none_left}
use Rattle.vk_model.specs.Memory.LinearBlocks.{Rises, Falls}
use Rattle.vk_model.proofs.Lists.Truths.{clash}

-- ---- two ranges

-- two ranges of some bytes that don't meet are beside each other
pub beside : (a n b m : ℕ) → 0 < n → 0 < m → ranges_meet a n b m ≡ false → (a + n ≤ b) ⊎ (b + m ≤ a)
beside a n b m some few apart = elim (cases_lt b (a + n)) [
  | inr over ↦ inl over
  | inl lower ↦ elim (cases_lt a (b + m)) [
    | inr over ↦ inr over
    | inl low ↦ let meet : ranges_meet a n b m ≡ true = rw (lt-ltb 0 n some, lt-ltb 0 m few, lt-ltb a (b + m) low, lt-ltb b (a + n) lower) refl in clash meet apart
  ]
]

-- ---- ranges one after another

pub rises_up : (low : ℕ) (ts : List Taken) (high more : ℕ) → high ≤ more → Rises low ts high → Rises low ts more
rises_up low [] high more le r = omega arith
rises_up low (t ∷ ts) high more le r = (r.0, rises_up (t.start + t.size) ts high more le r.1)

pub rises_down : (less low : ℕ) (ts : List Taken) (high : ℕ) → less ≤ low → Rises low ts high → Rises less ts high
rises_down less low [] high le r = omega arith
rises_down less low (t ∷ ts) high le r = (omega (arith, r.0), r.1)

-- the last range bounds them
pub rises_to_end : (low : ℕ) (ts : List Taken) (high bound : ℕ) → end_after low ts ≤ bound → Rises low ts high → Rises low ts bound
rises_to_end low [] high bound le r = le
rises_to_end low (t ∷ ts) high bound le r = (r.0, rises_to_end (t.start + t.size) ts high bound le r.1)

pub rises_push : (low : ℕ) (ts : List Taken) (t : Taken) (high bound : ℕ) → end_after low ts ≤ t.start → t.start + t.size ≤ bound → Rises low ts high → Rises low (ts ++ t ∷ []) bound
rises_push low [] t high bound from to r = (from, to)
rises_push low (u ∷ ts) t high bound from to r = (r.0, rises_push (u.start + u.size) ts t high bound from to r.1)

pub rises_insert : (low : ℕ) (xs ys : List Taken) (t : Taken) (high : ℕ) → is_none_left ys ≡ false → end_after low xs ≤ t.start → t.start + t.size ≤ first_start 0 ys → Rises low (xs ++ ys) high → Rises low (xs ++ t ∷ ys) high
rises_insert low [] [] t high some from to r = absurd cc
rises_insert low [] (y ∷ ys) t high some from to r = (from, (to, r.1))
rises_insert low (x ∷ xs) ys t high some from to r = (r.0, rises_insert (x.start + x.size) xs ys t high some from to r.1)

pub rises_filter : (p : Taken → Bool) (low : ℕ) (ts : List Taken) (high : ℕ) → Rises low ts high → Rises low (filter p ts) high
rises_filter p low [] high r = r
rises_filter p low (t ∷ ts) high r = kept (p t) (rises_filter p (t.start + t.size) ts high r.1)
  where
    kept : (b : Bool) → Rises (t.start + t.size) (filter p ts) high → Rises low (cond b (t ∷ filter p ts) (filter p ts)) high
    kept true rest = (r.0, rest)
    kept false rest = rises_down low (t.start + t.size) (filter p ts) high (omega (arith, r.0)) rest

pub falls_push : (high : ℕ) (ts : List Taken) (t : Taken) (low : ℕ) → t.start + t.size ≤ last_start high ts → low ≤ t.start → Falls high ts low → Falls high (ts ++ t ∷ []) low
falls_push high [] t low to from f = (to, from)
falls_push high (u ∷ ts) t low to from f = (f.0, falls_push u.start ts t low to from f.1)

pub falls_up : (high more : ℕ) (ts : List Taken) (low : ℕ) → high ≤ more → Falls high ts low → Falls more ts low
falls_up high more [] low le f = omega arith
falls_up high more (t ∷ ts) low le f = (omega (arith, f.0), f.1)

pub falls_filter : (p : Taken → Bool) (high : ℕ) (ts : List Taken) (low : ℕ) → Falls high ts low → Falls high (filter p ts) low
falls_filter p high [] low f = f
falls_filter p high (t ∷ ts) low f = kept (p t) (falls_filter p t.start ts low f.1)
  where
    kept : (b : Bool) → Falls t.start (filter p ts) low → Falls high (cond b (t ∷ filter p ts) (filter p ts)) low
    kept true rest = (f.0, rest)
    kept false rest = falls_up t.start high (filter p ts) low (omega (arith, f.0)) rest

pub last_up : (d e : ℕ) (ts : List Taken) → d ≤ e → last_start d ts ≤ last_start e ts
last_up d e [] le = le
last_up d e (t ∷ ts) le = omega arith

pub last_filter : (p : Taken → Bool) (high : ℕ) (ts : List Taken) (low : ℕ) → Falls high ts low → last_start high ts ≤ last_start high (filter p ts)
last_filter p high [] low f = omega arith
last_filter p high (t ∷ ts) low f = kept (p t) (last_filter p t.start ts low f.1)
  where
    kept : (b : Bool) → last_start t.start ts ≤ last_start t.start (filter p ts) → last_start t.start ts ≤ last_start high (cond b (t ∷ filter p ts) (filter p ts))
    kept true rest = rest
    kept false rest = omega (arith, rest, last_up t.start high (filter p ts) (omega (arith, f.0)))

-- the bounds lie in the block
pub last_inside : (high : ℕ) (ts : List Taken) (low : ℕ) → Falls high ts low → last_start high ts ≤ high
last_inside high [] low f = omega arith
last_inside high (t ∷ ts) low f = omega (arith, f.0, last_inside t.start ts low f.1)

pub last_pushed : (d : ℕ) (ts : List Taken) (t : Taken) → last_start d (ts ++ t ∷ []) ≡ t.start
last_pushed d [] t = refl
last_pushed d (u ∷ ts) t = last_pushed u.start ts t

pub end_inside : (low : ℕ) (ts : List Taken) (high : ℕ) → Rises low ts high → end_after low ts ≤ high
end_inside low [] high r = r
end_inside low (t ∷ ts) high r = end_inside (t.start + t.size) ts high r.1

pub first_inside : (low : ℕ) (xs ys : List Taken) (high : ℕ) → Rises low (xs ++ ys) high → first_start 0 ys ≤ high
first_inside low [] [] high r = omega arith
first_inside low [] (y ∷ ys) high r = omega (arith, end_inside (y.start + y.size) ys high r.1, starts_below (y.start + y.size) ys)
  where
    starts_below : (a : ℕ) (ts : List Taken) → Rises a ts high → a ≤ high
    starts_below a [] q = q
    starts_below a (t ∷ ts) q = omega (arith, q.0, starts_below (t.start + t.size) ts q.1)
first_inside low (x ∷ xs) ys high r = first_inside (x.start + x.size) xs ys high r.1

-- ---- lists of none

pub none_left : (ts : List Taken) → is_none_left ts ≡ true → ts ≡ []
none_left [] e = refl
none_left (t ∷ ts) e = absurd (let h = eqb-true (length (t ∷ ts)) 0 e in omega arith)

pub filter_none : (p : Taken → Bool) (ts : List Taken) → is_none_left ts ≡ true → is_none_left (filter p ts) ≡ true
filter_none p ts e = ap (λ us. is_none_left (filter p us)) (none_left ts e)
