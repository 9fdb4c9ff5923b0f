-- The ranges of a list of slots, when slots are added, dropped and given back.
use Rattle.std.proofs.Common.{◌≡◌, ℕ, zero, suc, ◌+◌, ◌<◌, ◌≤◌, List, [], ◌∷◌, ◌++◌, map, length, get_or, take, set, Bool, true, false, not, refl, ap, sym, ◌∙◌, arith, cond, inl, inr}
use Rattle.std.specs.Prelude.{Option, Some}
use Rattle.std.specs.List.{filter}
use Rattle.std.proofs.lemmas.List.{map-append, get_or_default, take_more, append-nil}
use Rattle.std.proofs.lemmas.List.Elements.{filter-append}
use Rattle.std.proofs.lemmas.Bool.{eq-eqb, ne_eqb, cases_lt}
use Rattle.vk_model.specs.Memory.Suballocation.{Taken}
use Rattle.vk_model.specs.Memory.LinearBlocks.{others}
use Rattle.vma_linear.specs.declared.slots.Slot.{Slot}
use Rattle.vma_linear.specs.Inner.Slots.{range_of, ranges_of}
use Rattle.vma_linear.specs.Inner.Gaps.{last_after}

abbrev is_live : Slot → Bool
is_live s = s.live

-- ---- lists put together

pub ranges-append : (xs ys : List Slot) → ranges_of (xs ++ ys) ≡ ranges_of xs ++ ranges_of ys
ranges-append xs ys = ap (map range_of) (filter-append is_live xs ys) ∙ map-append range_of (filter is_live xs) (filter is_live ys)

pub ranges-push : (xs : List Slot) (s : Slot) → s.live ≡ true → ranges_of (xs ++ s ∷ []) ≡ ranges_of xs ++ range_of s ∷ []
ranges-push xs s e = ranges-append xs (s ∷ []) ∙ ap (λ b. ranges_of xs ++ map range_of (cond b (s ∷ []) [])) e

pub ranges_le : (xs : List Slot) → length (ranges_of xs) ≤ length xs
ranges_le [] = omega arith
ranges_le (x ∷ xs) = go x.live (ranges_le xs)
  where
    go : (b : Bool) → length (ranges_of xs) ≤ length xs → length (map range_of (cond b (x ∷ filter is_live xs) (filter is_live xs))) ≤ suc (length xs)
    go true h = omega arith
    go false h = omega arith

-- ---- slots that were given back

abbrev pub IsDeadBelow : ℕ → List Slot → Type 0
IsDeadBelow n xs = (k : ℕ) (d : Slot) → k < n → k < length xs → (get_or xs k d).live ≡ false

pub dead_rest : (n : ℕ) (x : Slot) (xs : List Slot) → IsDeadBelow (suc n) (x ∷ xs) → IsDeadBelow n xs
dead_rest n x xs dead = λ k d low there. dead (suc k) d (omega arith) (omega arith)

pub dead_first : (x : Slot) (xs : List Slot) → x.live ≡ false → ranges_of (x ∷ xs) ≡ ranges_of xs
dead_first x xs e = ap (λ b. map range_of (cond b (x ∷ filter is_live xs) (filter is_live xs))) e

pub live_first : (x : Slot) (xs : List Slot) → x.live ≡ true → ranges_of (x ∷ xs) ≡ range_of x ∷ ranges_of xs
live_first x xs e = ap (λ b. map range_of (cond b (x ∷ filter is_live xs) (filter is_live xs))) e

-- where some range is left, a slot after those is live
pub some_live : (n : ℕ) (xs : List Slot) → IsDeadBelow n xs → 0 < length (ranges_of xs) → n < length xs
some_live n [] dead some = absurd (omega arith)
some_live zero (x ∷ xs) dead some = omega arith
some_live (suc n) (x ∷ xs) dead some =
    let rest : 0 < length (ranges_of xs) = omega (arith, some, ap length (dead_first x xs (dead 0 x (omega arith) (omega arith)))) in
    omega (arith, some_live n xs (dead_rest n x xs dead) rest)

-- the first slot that is live has the first range
pub ranges_from_head : (n : ℕ) (xs : List Slot) (d : Slot) → IsDeadBelow n xs → n < length xs → (get_or xs n d).live ≡ true → (rest : List Taken) × (ranges_of xs ≡ range_of (get_or xs n d) ∷ rest)
ranges_from_head n [] d dead there live = absurd (omega arith)
ranges_from_head zero (x ∷ xs) d dead there live = (ranges_of xs, live_first x xs live)
ranges_from_head (suc n) (x ∷ xs) d dead there live =
    let rest = ranges_from_head n xs d (dead_rest n x xs dead) (omega arith) live in
    (rest.0, dead_first x xs (dead 0 x (omega arith) (omega arith)) ∙ rest.1)

-- one more slot that was given back
pub dead_more : (n : ℕ) (xs : List Slot) (e : Slot) → IsDeadBelow n xs → n < length xs → (get_or xs n e).live ≡ false → IsDeadBelow (n + 1) xs
dead_more n xs e dead there gone = λ k d low within. elim (cases_lt k n) [
  | inl less ↦ dead k d less within
  | inr more ↦ let same : k ≡ n = omega arith in rw same (ap (λ (s : Slot). s.live) (get_or_default xs n d e there) ∙ gone)
]

-- ---- giving back

-- no slot that is live starts here
abbrev pub IsFreeAt : ℕ → List Slot → Type 0
IsFreeAt start xs = (k : ℕ) (d : Slot) → k < length xs → (get_or xs k d).live ≡ true → (get_or xs k d).start ≡ start → ⊥

free_rest : (start : ℕ) (x : Slot) (xs : List Slot) → IsFreeAt start (x ∷ xs) → IsFreeAt start xs
free_rest start x xs free = λ k d there. free (suc k) d (omega arith)

others_first : (start : ℕ) (t : Taken) (ts : List Taken) → (t.start ≡ start → ⊥) → others start (t ∷ ts) ≡ t ∷ others start ts
others_first start t ts differ = ap (λ b. cond (not b) (t ∷ others start ts) (others start ts)) (ne_eqb t.start start differ)

others_here : (start : ℕ) (t : Taken) (ts : List Taken) → t.start ≡ start → others start (t ∷ ts) ≡ others start ts
others_here start t ts same = ap (λ b. cond (not b) (t ∷ others start ts) (others start ts)) (eq-eqb t.start start same)

pub none_given_back : (start : ℕ) (xs : List Slot) → IsFreeAt start xs → others start (ranges_of xs) ≡ ranges_of xs
none_given_back start [] free = refl
none_given_back start (x ∷ xs) free = go x.live refl (none_given_back start xs (free_rest start x xs free))
  where
    go : (b : Bool) → x.live ≡ b → others start (ranges_of xs) ≡ ranges_of xs → others start (ranges_of (x ∷ xs)) ≡ ranges_of (x ∷ xs)
    go true e rest =
        ap (others start) (live_first x xs e) ∙ others_first start (range_of x) (ranges_of xs) (free 0 x (omega arith) e)
        ∙ ap (λ ts. range_of x ∷ ts) rest ∙ sym (live_first x xs e)
    go false e rest = ap (others start) (dead_first x xs e) ∙ rest ∙ sym (dead_first x xs e)

-- one slot alone starts here
abbrev pub IsAloneAt : ℕ → ℕ → List Slot → Type 0
IsAloneAt i start xs = (k : ℕ) (d : Slot) → k < length xs → (k ≡ i → ⊥) → (get_or xs k d).start ≡ start → ⊥

alone_rest : (i start : ℕ) (x : Slot) (xs : List Slot) → IsAloneAt (suc i) start (x ∷ xs) → IsAloneAt i start xs
alone_rest i start x xs alone = λ k d there apart same. alone (suc k) d (omega arith) (λ e. apart (omega arith)) same

pub record GivesBack (xs ys : List Slot) (start : ℕ) : Type 0 where
  pub taken : ranges_of ys ≡ others start (ranges_of xs)
  pub count : length (ranges_of xs) ≡ suc (length (ranges_of ys))

pub given_back : (i start : ℕ) (xs : List Slot) (d gone : Slot) → i < length xs → (get_or xs i d).start ≡ start → (get_or xs i d).live ≡ true → gone.live ≡ false → IsAloneAt i start xs → GivesBack xs (set xs i gone) start
given_back i start [] d gone there here live dead alone = absurd (omega arith)
given_back zero start (x ∷ xs) d gone there here live dead alone =
    let none = none_given_back start xs (λ k e within _ same. alone (suc k) e (omega arith) (λ z. omega arith) same) in
    record {
      taken = dead_first gone xs dead ∙ sym (ap (others start) (live_first x xs live) ∙ others_here start (range_of x) (ranges_of xs) here ∙ none);
      count = ap length (live_first x xs live) ∙ ap (λ (ts : List Taken). suc (length ts)) (sym (dead_first gone xs dead));
    }
given_back (suc i) start (x ∷ xs) d gone there here live dead alone =
    go x.live refl (given_back i start xs d gone (omega arith) here live dead (alone_rest i start x xs alone))
  where
    go : (b : Bool) → x.live ≡ b → GivesBack xs (set xs i gone) start → GivesBack (x ∷ xs) (x ∷ set xs i gone) start
    go true e rest = record {
      taken = live_first x (set xs i gone) e ∙ ap (λ ts. range_of x ∷ ts) rest.taken
          ∙ sym (ap (others start) (live_first x xs e) ∙ others_first start (range_of x) (ranges_of xs) (alone 0 x (omega arith) (λ z. omega arith)));
      count = ap length (live_first x xs e) ∙ ap suc rest.count ∙ ap (λ (ts : List Taken). suc (length ts)) (sym (live_first x (set xs i gone) e));
    }
    go false e rest = record {
      taken = dead_first x (set xs i gone) e ∙ rest.taken ∙ sym (ap (others start) (dead_first x xs e));
      count = ap length (dead_first x xs e) ∙ rest.count ∙ ap (λ (ts : List Taken). suc (length ts)) (sym (dead_first x (set xs i gone) e));
    }

-- ---- the last range

pub ranges_last : (o : Option Taken) (n : ℕ) (xs : List Slot) (d : Slot) → length xs ≡ suc n → (get_or xs n d).live ≡ true → last_after o (ranges_of xs) ≡ Some (range_of (get_or xs n d))
ranges_last o n [] d long live = absurd (omega arith)
ranges_last o zero (x ∷ []) d long live = ap (last_after o) (live_first x [] live)
ranges_last o zero (x ∷ y ∷ ys) d long live = absurd (omega arith)
ranges_last o (suc n) (x ∷ xs) d long live = go x.live refl (λ p. ranges_last p n xs d (omega arith) live)
  where
    go : (b : Bool) → x.live ≡ b → ((p : Option Taken) → last_after p (ranges_of xs) ≡ Some (range_of (get_or xs n d))) → last_after o (ranges_of (x ∷ xs)) ≡ Some (range_of (get_or xs n d))
    go true e rest = ap (last_after o) (live_first x xs e) ∙ rest (Some (range_of x))
    go false e rest = ap (last_after o) (dead_first x xs e) ∙ rest o

-- ---- one slot more

pub more_live : (xs : List Slot) (i : ℕ) (d : Slot) → i < length xs → (get_or xs i d).live ≡ true → ranges_of (take (i + 1) xs) ≡ ranges_of (take i xs) ++ range_of (get_or xs i d) ∷ []
more_live xs i d there live = ap ranges_of (take_more xs i d there) ∙ ranges-push (take i xs) (get_or xs i d) live

pub more_dead : (xs : List Slot) (i : ℕ) (d : Slot) → i < length xs → (get_or xs i d).live ≡ false → ranges_of (take (i + 1) xs) ≡ ranges_of (take i xs)
more_dead xs i d there dead =
    ap ranges_of (take_more xs i d there) ∙ ranges-append (take i xs) (get_or xs i d ∷ []) ∙ ap (λ ts. ranges_of (take i xs) ++ ts) (dead_first (get_or xs i d) [] dead)
    ∙ append-nil (ranges_of (take i xs))
