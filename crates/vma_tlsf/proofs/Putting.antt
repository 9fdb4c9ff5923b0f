-- A block after a request: it is sound, and what is taken is what was asked.
use Rattle.std.proofs.Common.{◌≡◌, ℕ, zero, suc, ◌+◌, ◌%◌, ◌<◌, ◌≤◌, inl, inr, List, Bool, true, false, Option, Some, None, refl, ap, sym, subst, ◌∙◌, arith}
use Rattle.std.specs.Prelude.{IsTrue, Result, Ok, Err, IfOk, IsOk, OnErr, IfSome, IsSomeAnd, min}
use Rattle.std.specs.List.{find, range_with_len}
use Rattle.std.proofs.lemmas.Bool.{cases_eq, false_from_ne_true}
use Rattle.vk_nodes.specs.declared.node.Node.{Node}
use Rattle.vk_model.specs.declared.suballoc.SubFault.{SubFault}
use Rattle.vk_model.specs.Memory.Suballocation.{Taken, Request, Puts}
use Rattle.vk_model.specs.Memory.Room.{fits, lowest}
use Rattle.vk_model.proofs.Memory.Taken.{fitting, widened, putting_is_sound}
use Rattle.vma_tlsf.specs.declared.places.Want.{Want}
use Rattle.vma_tlsf.specs.declared.places.Place.{Place}
use Rattle.vma_tlsf.specs.Block.{Block, is_sound, taken, IsExhaustedBelow}
use Rattle.vma_tlsf.specs.Inner.Chain.{seen, taken_in, taken_here}
use Rattle.vma_tlsf.specs.Inner.Steps.{AreAlike}
use Rattle.vma_tlsf.specs.Inner.Changes.{TakesMore}
use Rattle.vma_tlsf.specs.Inner.Fits.{IsBlock, IsPlaceFor, NoneBelow}
use Rattle.vma_tlsf.specs.Inner.Wants.{request_of_want, taken_of_want}
use Rattle.vma_tlsf.proofs.Paints.{chain_alike}
use Rattle.vma_tlsf.proofs.Takings.{same_taken}
use Rattle.vma_tlsf.proofs.Fitting.{cond_true, cond_false}
use Rattle.vma_tlsf.proofs.Sounding.{put_sound}
use Rattle.vma_tlsf.proofs.Freed.{seen_all, now_taken}

-- ---- a change of the lists by size alone

pub alike_taken : (old new : List (Option Node)) → AreAlike old new → taken_in new ≡ taken_in old
alike_taken old new alike = same_taken new old (λ i. ap taken_here (alike.ranges i))

pub alike_block : (whole root : ℕ) (old new : List (Option Node)) → IsBlock whole root old → AreAlike old new → IsBlock whole root new
alike_block whole root old new block alike = record {
  bound = block.bound;
  chain = chain_alike whole root (seen old) (seen new) alike.ranges block.chain;
  sound = ap (is_sound whole) (alike_taken old new alike) ∙ block.sound;
}

-- ---- what a search found is taken

module _ (whole root limit : ℕ) (old new : List (Option Node)) (want : Want) (block : IsBlock whole root old) (inside : limit ≤ whole) where
  fits_found : (found : Option Place) (start : ℕ) → IfSome found (λ place. IsPlaceFor old (request_of_want want) limit place.slot place.start) → IsSomeAnd found (λ place. place.start ≡ start) → IsTrue (fits (taken_in old) (request_of_want want) 0 limit start)
  fits_found None start some at = absurd at
  fits_found (Some place) start some at = subst (λ s. IsTrue (fits (taken_in old) (request_of_want want) 0 limit s)) at some.fitting

  fits_whole : (found : Option Place) (start : ℕ) → IfSome found (λ place. IsPlaceFor old (request_of_want want) limit place.slot place.start) → IsSomeAnd found (λ place. place.start ≡ start) → IsTrue (fits (taken_in old) (request_of_want want) 0 whole start)
  fits_whole found start some at = widened (taken_in old) (request_of_want want) 0 limit whole start inside (fits_found found start some at)

  aligned_at : (found : Option Place) (start : ℕ) → IfSome found (λ place. IsPlaceFor old (request_of_want want) limit place.slot place.start) → IsSomeAnd found (λ place. place.start ≡ start) → start % want.align ≡ 0
  aligned_at found start some at = (fitting (taken_in old) (request_of_want want) 0 whole start (fits_whole found start some at)).aligned

  pub block_after : (found : Option Place) (result : Result ℕ SubFault) → IfSome found (λ place. IsPlaceFor old (request_of_want want) limit place.slot place.start)
      → IfOk result (λ start. IsSomeAnd found (λ place. place.start ≡ start) × TakesMore old new (taken_of_want start want)) → OnErr result (AreAlike old new) → IsBlock whole root new
  block_after found (Ok start) some ok err = put_sound putting_is_sound whole root old new (request_of_want want) start block (fits_whole found start some ok.0) (aligned_at found start some ok.0) ok.1
  block_after found (Err e) some ok err = alike_block whole root old new block err

  pub puts_after : (now : Block) → record { size = whole; taken = taken_in old } ≡ now → (found : Option Place) (result : Result ℕ SubFault) → IfSome found (λ place. IsPlaceFor old (request_of_want want) limit place.slot place.start)
      → IfOk result (λ start. IsSomeAnd found (λ place. place.start ≡ start) × TakesMore old new (taken_of_want start want)) → OnErr result (AreAlike old new)
      → IfOk result (λ start. Puts (taken now) (taken (record { size = whole; taken = taken_in new })) (request_of_want want) start)
  puts_after now view found (Ok start) some ok err =
      subst (λ ts. Puts ts (taken (record { size = whole; taken = taken_in new })) (request_of_want want) start) (sym (now_taken whole root old now block view))
      (subst (λ ts. Puts (taken_in old) ts (request_of_want want) start) (sym (seen_all whole root new (block_after found (Ok start) some ok err)))
      (record { aligned = aligned_at found start some ok.0; added = ok.1.more }))
  puts_after now view found (Err e) some ok err = tt

  pub same_after : (now : Block) → record { size = whole; taken = taken_in old } ≡ now → (result : Result ℕ SubFault) → OnErr result (AreAlike old new) → OnErr result (taken (record { size = whole; taken = taken_in new }) ≡ taken now)
  same_after now view (Ok start) err = tt
  same_after now view (Err e) err = seen_all whole root new (alike_block whole root old new block err) ∙ alike_taken old new err ∙ sym (now_taken whole root old now block view)

  pub room_before : (now : Block) → record { size = whole; taken = taken_in old } ≡ now → (found : Option Place) (result : Result ℕ SubFault) → IfSome found (λ place. IsPlaceFor old (request_of_want want) limit place.slot place.start)
      → IfOk result (λ start. IsSomeAnd found (λ place. place.start ≡ start) × TakesMore old new (taken_of_want start want))
      → IsOk result → (start : ℕ) × IsTrue (fits (taken now) (request_of_want want) 0 now.size start)
  room_before now view found (Ok start) some ok is_ok =
      let size : whole ≡ now.size = ap (λ (b : Block). b.size) view in (
        start,
        subst (λ n. IsTrue (fits (taken now) (request_of_want want) 0 n start)) size
            (subst (λ ts. IsTrue (fits ts (request_of_want want) 0 whole start)) (sym (now_taken whole root old now block view)) (fits_whole found start some ok.0)),
      )
  room_before now view found (Err e) some ok is_ok = absurd cc

-- ---- the lowest place

find_from : (p : ℕ → Bool) (a n s : ℕ) → a ≤ s → s < a + n → p s ≡ true → ((o : ℕ) → o < s → p o ≡ true → ⊥) → find p (range_with_len a n) ≡ Some s
find_from p a zero s from to holds none = absurd (omega (arith, from, to))
find_from p a (suc n) s from to holds none = elim (cases_eq a s) [
  | inl e ↦ cond_true (p a) (Some a) (find p (range_with_len (a + 1) n)) (ap p e ∙ holds) ∙ ap Some e
  | inr other ↦ cond_false (p a) (Some a) (find p (range_with_len (a + 1) n)) (false_from_ne_true (p a) (none a (omega (arith, from, other)))) ∙ find_from p (a + 1) n s (omega (arith, from, other)) (omega (arith, to)) holds none
]

find_none : (p : ℕ → Bool) (a n : ℕ) → ((o : ℕ) → p o ≡ true → ⊥) → find p (range_with_len a n) ≡ None
find_none p a zero none = refl
find_none p a (suc n) none = cond_false (p a) (Some a) (find p (range_with_len (a + 1) n)) (false_from_ne_true (p a) (none a)) ∙ find_none p (a + 1) n none

pub lowest_is : (ts : List Taken) (r : Request) (high start : ℕ) → IsTrue (fits ts r 0 high start) → ((o : ℕ) → o < start → IsTrue (fits ts r 0 high o) → ⊥) → lowest ts r 0 high ≡ Some start
lowest_is ts r high start h none =
    let within = (fitting ts r 0 high start h).below in
    find_from (fits ts r 0 high) 0 (suc high) start (omega arith) (omega (arith, within)) h none

pub lowest_none_is : (ts : List Taken) (r : Request) (high : ℕ) → ((o : ℕ) → IsTrue (fits ts r 0 high o) → ⊥) → lowest ts r 0 high ≡ None
lowest_none_is ts r high none = find_none (fits ts r 0 high) 0 (suc high) none

module _ (whole root : ℕ) (old : List (Option Node)) (now : Block) (want : Want) (limit high : ℕ) (block : IsBlock whole root old) (view : record { size = whole; taken = taken_in old } ≡ now) (high_is : high ≡ min limit whole) where
  lowest_seen : lowest (taken now) (request_of_want want) 0 (min limit now.size) ≡ lowest (taken_in old) (request_of_want want) 0 high
  lowest_seen =
      ap (λ ts. lowest ts (request_of_want want) 0 (min limit now.size)) (now_taken whole root old now block view)
      ∙ ap (λ n. lowest (taken_in old) (request_of_want want) 0 (min limit n)) (sym (ap (λ (b : Block). b.size) view))
      ∙ ap (λ n. lowest (taken_in old) (request_of_want want) 0 n) (sym high_is)

  pub lowest_found : (place : Place) → IsPlaceFor old (request_of_want want) high place.slot place.start → NoneBelow old (request_of_want want) high place.start → lowest (taken now) (request_of_want want) 0 (min limit now.size) ≡ Some place.start
  lowest_found place some least = lowest_seen ∙ lowest_is (taken_in old) (request_of_want want) high place.start some.fitting least

  pub lowest_after : (new : List (Option Node)) (found : Option Place) (result : Result ℕ SubFault) → IfSome found (λ place. IsPlaceFor old (request_of_want want) high place.slot place.start) → IfSome found (λ place. NoneBelow old (request_of_want want) high place.start)
      → IfOk result (λ start. IsSomeAnd found (λ place. place.start ≡ start) × TakesMore old new (taken_of_want start want)) → IfOk result (λ start. lowest (taken now) (request_of_want want) 0 (min limit now.size) ≡ Some start)
  lowest_after new None (Ok start) some least ok = absurd ok.0
  lowest_after new (Some place) (Ok start) some least ok = lowest_found place some least ∙ ap Some ok.0
  lowest_after new found (Err e) some least ok = tt

  pub none_lowest : ((start : ℕ) → IsTrue (fits (taken_in old) (request_of_want want) 0 high start) → ⊥) → lowest (taken now) (request_of_want want) 0 (min limit now.size) ≡ None
  none_lowest none = lowest_seen ∙ lowest_none_is (taken_in old) (request_of_want want) high none

  pub too_large : whole < want.size → lowest (taken now) (request_of_want want) 0 (min limit now.size) ≡ None
  too_large more = none_lowest (λ start h. (let within = (fitting (taken_in old) (request_of_want want) 0 high start h).below in omega (arith, within, high_is, more)))

  -- what fits nowhere below a start does so below no lower limit either
  pub none_below_seen : (low : ℕ) → IsExhaustedBelow now.size (taken now) (request_of_want want) low → NoneBelow old (request_of_want want) high low
  none_below_seen low none s less h =
      let wide = widened (taken_in old) (request_of_want want) 0 high whole s (omega (arith, high_is)) h in
      let size : whole ≡ now.size = ap (λ (b : Block). b.size) view in
      let fails : fits (taken_in old) (request_of_want want) 0 whole s ≡ false =
      ap (λ n. fits (taken_in old) (request_of_want want) 0 n s) size ∙ ap (λ ts. fits ts (request_of_want want) 0 now.size s) (sym (now_taken whole root old now block view)) ∙ none s less in
      let both : true ≡ false = sym wide ∙ fails in
      cc
