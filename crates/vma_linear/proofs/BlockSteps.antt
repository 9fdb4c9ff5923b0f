-- The lists of a linear block through requests and frees.
use Rattle.std.proofs.Common.{◌≡◌, ℕ, ◌+◌, ◌<◌, ◌≤◌, ◌^◌, List, [], ◌∷◌, ◌++◌, Bool, true, false, nat_lt, sym, subst, arith, inl, inr, if◌then◌else◌}
use Rattle.std.specs.Prelude.{All, Option, Some, None, IfSome, Result, Ok, Err, IfOk, OnErr, ◌⊎◌}
use Rattle.vk_model.specs.declared.suballoc.SubFault.{SubFault}
use Rattle.std.specs.Option.{option_map}
use Rattle.std.proofs.lemmas.List.Elements.{All-nil, All-cons, All-head, All-tail, All-weaker}
use Rattle.std.proofs.lemmas.Bool.{lt-ltb}
use Rattle.vk_model.specs.declared.resource.Kind.{Kind}
use Rattle.vk_model.specs.Basics.{round_up}
use Rattle.vk_model.specs.Memory.Suballocation.{Taken, Request, same_kind, taken_at}
use Rattle.vk_model.specs.Memory.Room.{Linear, is_none_left, stack_place, ring_place, upper_place, last_start, end_after}
use Rattle.vk_model.specs.Memory.LinearBlocks.{Rises, Falls, IsLinearBlock, others, with_lower, with_upper}
use Rattle.vk_model.proofs.Memory.Ranges.{none_left}
use Rattle.vk_model.proofs.Memory.LinearBlocks.{linear_stays}
use Rattle.vma_linear.specs.declared.linear.Linear.TheInside.{Inside}
use Rattle.vk_model.specs.declared.suballoc.TakenRange.{TakenRange}
use Rattle.vma_linear.specs.declared.slots.Direction.{Direction}
use Rattle.vma_linear.specs.declared.slots.Direction.TheVariants.{Up, Down}
use Rattle.vma_linear.specs.Inner.Slots.{Ranges, comes_before}
use Rattle.vk_model.specs.Memory.TakenRanges.{taken_of}
use Rattle.vma_linear.specs.Inner.Gaps.{free_from, last_after}
use Rattle.vma_linear.specs.Inner.Blocks.{block_of, AreLists}
use Rattle.vma_linear.proofs.Places.{Sized, all_left, all_right, rises_left, rises_right}

-- ---- ends fit the numbers

abbrev IsShort : Option Taken → Type 0
IsShort None = Unit {0}
IsShort (Some t) = t.start + t.size < 2 ^ 63

last_short : (size : ℕ) (o : Option Taken) (ts : List Taken) → size < 2 ^ 63 → IsShort o → All (λ t. t.start + t.size ≤ size) ts → IsShort (last_after o ts)
last_short size o [] small short inside = short
last_short size o (t ∷ ts) small short inside =
    let end = All-head (λ u. u.start + u.size ≤ size) t ts inside in
    last_short size (Some t) ts small (omega arith) (All-tail (λ u. u.start + u.size ≤ size) t ts inside)

pub range_short : (o : Option TakenRange) → IsShort (option_map taken_of o) → IfSome o (λ t. t.start + t.size < 2 ^ 63)
range_short None short = tt
range_short (Some t) short = short

free_short : (k : Kind) (o : Option Taken) → IsShort o → free_from k o < 2 ^ 63 + 1024
free_short k None short = omega arith
free_short k (Some t) short = go (same_kind t.kind k)
  where
    go : (b : Bool) → (if b then t.start + t.size else round_up (t.start + t.size) 1024) < 2 ^ 63 + 1024
    go true = omega arith
    go false = omega arith

module _ (x : Inside) (are : AreLists x) where
  abbrev b : Linear
  b = block_of x

  lowers_inside : All (λ t. t.start + t.size ≤ b.size) (b.lower ++ b.wrapped)
  lowers_inside = all_left (λ t. t.start + t.size ≤ b.size) (b.lower ++ b.wrapped) b.upper are.block.sound.inside

  within : (ts : List Taken) → All (λ t. t.start + t.size ≤ b.size) ts → All (λ t. t.start + t.size < 2 ^ 64) ts
  within ts inside = All-weaker (λ t. t.start + t.size ≤ b.size) (λ t. t.start + t.size < 2 ^ 64) (λ t h. omega (arith, are.size)) ts inside

  pub lower_ends : All (λ t. t.start + t.size < 2 ^ 64) x.lower.taken
  lower_ends = within b.lower (all_left (λ t. t.start + t.size ≤ b.size) b.lower b.wrapped lowers_inside)

  pub wrapped_ends : All (λ t. t.start + t.size < 2 ^ 64) x.wrapped.taken
  wrapped_ends = within b.wrapped (all_right (λ t. t.start + t.size ≤ b.size) b.lower b.wrapped lowers_inside)

  pub upper_ends : All (λ t. t.start + t.size < 2 ^ 64) x.upper.taken
  upper_ends = within b.upper (all_right (λ t. t.start + t.size ≤ b.size) (b.lower ++ b.wrapped) b.upper are.block.sound.inside)

  lower_short : IsShort (last_after None b.lower)
  lower_short = last_short b.size None b.lower are.size tt (all_left (λ t. t.start + t.size ≤ b.size) b.lower b.wrapped lowers_inside)

  wrapped_short : IsShort (last_after None b.wrapped)
  wrapped_short = last_short b.size None b.wrapped are.size tt (all_right (λ t. t.start + t.size ≤ b.size) b.lower b.wrapped lowers_inside)

  pub lower_fits : (o : Option TakenRange) → option_map taken_of o ≡ last_after None b.lower → IfSome o (λ t. t.start + t.size < 2 ^ 63)
  lower_fits o e = range_short o (subst IsShort (sym e) lower_short)

  pub wrapped_fits : (o : Option TakenRange) → option_map taken_of o ≡ last_after None b.wrapped → IfSome o (λ t. t.start + t.size < 2 ^ 63)
  wrapped_fits o e = range_short o (subst IsShort (sym e) wrapped_short)

  pub lower_from_fits : (k : Kind) → free_from k (last_after None b.lower) < 2 ^ 63 + 1024
  lower_from_fits k = free_short k (last_after None b.lower) lower_short

  pub wrapped_from_fits : (k : Kind) → free_from k (last_after None b.wrapped) < 2 ^ 63 + 1024
  wrapped_from_fits k = free_short k (last_after None b.wrapped) wrapped_short

-- ---- what is added comes after the others

rises_starts : (low : ℕ) (ts : List Taken) (t : Taken) (high : ℕ) → Sized ts → Rises low (ts ++ t ∷ []) high → (low ≤ t.start) × All (λ u. nat_lt u.start t.start ≡ true) ts
rises_starts low [] t high sized r = (r.0, All-nil (λ u. nat_lt u.start t.start ≡ true))
rises_starts low (u ∷ ts) t high sized r =
    let rest = rises_starts (u.start + u.size) ts t high (All-tail (λ v. 0 < v.size) u ts sized) r.1 in
    let some = All-head (λ v. 0 < v.size) u ts sized in
    let above = rest.0 in
    let first = r.0 in
    (omega arith, All-cons (λ v. nat_lt v.start t.start ≡ true) u ts (lt-ltb u.start t.start (omega arith)) rest.1)

falls_starts : (high : ℕ) (ts : List Taken) (t : Taken) (low : ℕ) → 0 < t.size → Sized ts → Falls high (ts ++ t ∷ []) low → (t.start < high) × All (λ u. nat_lt t.start u.start ≡ true) ts
falls_starts high [] t low more sized f = (omega (arith, f.0), All-nil (λ u. nat_lt t.start u.start ≡ true))
falls_starts high (u ∷ ts) t low more sized f =
    let rest = falls_starts u.start ts t low more (All-tail (λ v. 0 < v.size) u ts sized) f.1 in
    let under = rest.0 in
    let first = f.0 in
    (omega arith, All-cons (λ v. nat_lt t.start v.start ≡ true) u ts (lt-ltb t.start u.start under) rest.1)

turned : (w v : Direction) (start : ℕ) (ts : List Taken) → w ≡ v → All (λ t. comes_before v t.start start ≡ true) ts → All (λ t. comes_before w t.start start ≡ true) ts
turned w v start ts e all = subst (λ d. All (λ t. comes_before d t.start start ≡ true) ts) (sym e) all

module _ (x : Inside) (are : AreLists x) (r : Request) (some : 0 < r.size) (start : ℕ) where
  abbrev c : Linear
  c = block_of x

  stays_below : stack_place c r ≡ Some start → IsLinearBlock (record c { lower = c.lower ++ taken_at start r ∷ [] })
  stays_below e = subst (λ p. IsLinearBlock (with_lower c r p (ring_place c r))) e (linear_stays.lower c r some are.block)

  stays_round : stack_place c r ≡ None → ring_place c r ≡ Some start → IsLinearBlock (record c { wrapped = c.wrapped ++ taken_at start r ∷ [] })
  stays_round e f = subst (λ q. IsLinearBlock (with_lower c r None q)) f (subst (λ p. IsLinearBlock (with_lower c r p (ring_place c r))) e (linear_stays.lower c r some are.block))

  stays_above : upper_place c r ≡ Some start → IsLinearBlock (record c { upper = c.upper ++ taken_at start r ∷ [] })
  stays_above e = subst (λ p. IsLinearBlock (with_upper c r p)) e (linear_stays.upper c r some are.block)

  pub below_others : stack_place c r ≡ Some start → All (λ t. comes_before x.lower.direction t.start start ≡ true) x.lower.taken
  below_others e =
      let new = stays_below e in
      let sized = all_left (λ t. 0 < t.size) c.lower c.wrapped (all_left (λ t. 0 < t.size) (c.lower ++ c.wrapped) c.upper are.block.sized) in
      let starts = rises_starts (end_after 0 c.wrapped) c.lower (taken_at start r) (last_start c.size c.upper) sized (rises_right 0 c.wrapped (c.lower ++ taken_at start r ∷ []) (last_start c.size c.upper) new.rises) in
      turned x.lower.direction Up start x.lower.taken are.lower starts.1

  pub round_others : stack_place c r ≡ None → ring_place c r ≡ Some start → All (λ t. comes_before x.wrapped.direction t.start start ≡ true) x.wrapped.taken
  round_others e f =
      let new = stays_round e f in
      let sized = all_right (λ t. 0 < t.size) c.lower c.wrapped (all_left (λ t. 0 < t.size) (c.lower ++ c.wrapped) c.upper are.block.sized) in
      let t = taken_at start r in
      let starts = rises_starts 0 c.wrapped t (end_after 0 (c.wrapped ++ t ∷ [])) sized (rises_left 0 (c.wrapped ++ t ∷ []) c.lower (last_start c.size c.upper) new.rises) in
      turned x.wrapped.direction Up start x.wrapped.taken are.wrapped starts.1

  pub above_others : upper_place c r ≡ Some start → All (λ t. comes_before x.upper.direction t.start start ≡ true) x.upper.taken
  above_others e =
      let new = stays_above e in
      let sized = all_right (λ t. 0 < t.size) (c.lower ++ c.wrapped) c.upper are.block.sized in
      let starts = falls_starts c.size c.upper (taken_at start r) 0 some sized new.falls in
      turned x.upper.direction Down start x.upper.taken are.upper starts.1

  pub lists_below : (l : Ranges) → stack_place c r ≡ Some start → l ≡ record x.lower { taken = x.lower.taken ++ taken_at start r ∷ [] } → AreLists (record x { lower = l })
  lists_below l e is = subst (λ m. AreLists (record x { lower = m })) (sym is) (record { block = stays_below e; size = are.size; lower = are.lower; wrapped = are.wrapped; upper = are.upper })

  pub lists_round : (l : Ranges) → stack_place c r ≡ None → ring_place c r ≡ Some start → l ≡ record x.wrapped { taken = x.wrapped.taken ++ taken_at start r ∷ [] } → AreLists (record x { wrapped = l })
  lists_round l e f is = subst (λ m. AreLists (record x { wrapped = m })) (sym is) (record { block = stays_round e f; size = are.size; lower = are.lower; wrapped = are.wrapped; upper = are.upper })

  pub lists_above : (l : Ranges) → upper_place c r ≡ Some start → l ≡ record x.upper { taken = x.upper.taken ++ taken_at start r ∷ [] } → AreLists (record x { upper = l })
  lists_above l e is = subst (λ m. AreLists (record x { upper = m })) (sym is) (record { block = stays_above e; size = are.size; lower = are.lower; wrapped = are.wrapped; upper = are.upper })

-- ---- giving back

module _ (x : Inside) (are : AreLists x) (start : ℕ) where
  abbrev rest : Linear
  rest = record (block_of x) { lower = others start x.lower.taken; wrapped = others start x.wrapped.taken; upper = others start x.upper.taken }

  abbrev without : Ranges → Ranges
  without l = record l { taken = others start l.taken }

  pub lists_left : is_none_left (others start x.lower.taken) ≡ false → AreLists (record x { lower = without x.lower; wrapped = without x.wrapped; upper = without x.upper })
  lists_left some = record {
    block = subst (λ k. IsLinearBlock (if k then record rest { lower = rest.wrapped; wrapped = [] } else rest)) some (linear_stays.freed (block_of x) start are.block);
    size = are.size;
    lower = are.lower;
    wrapped = are.wrapped;
    upper = are.upper;
  }

  pub lists_turned : is_none_left (others start x.lower.taken) ≡ true → AreLists (record x { lower = without x.wrapped; wrapped = without x.lower; upper = without x.upper })
  lists_turned none = record {
    block = subst (λ ts. IsLinearBlock (record rest { lower = rest.wrapped; wrapped = ts })) (sym (none_left (others start x.lower.taken) none))
        (subst (λ k. IsLinearBlock (if k then record rest { lower = rest.wrapped; wrapped = [] } else rest)) none (linear_stays.freed (block_of x) start are.block));
    size = are.size;
    lower = are.wrapped;
    wrapped = are.lower;
    upper = are.upper;
  }

-- ---- what an addition leaves

pub added : (res : Result ℕ SubFault) (start : ℕ) (l old new : Ranges) → IfOk res (λ s. (s ≡ start) × (l ≡ new)) → OnErr res (l ≡ old) → (l ≡ new) ⊎ (l ≡ old)
added (Ok s) start l old new ok err = inl ok.1
added (Err e) start l old new ok err = inr err
