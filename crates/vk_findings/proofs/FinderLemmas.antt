-- What walks over areas find.
use Rattle.std.proofs.Common.{◌≡◌, ℕ, ◌+◌, ◌<◌, List, map, length, drop, get_or, Bool, true, false, Some, sym, subst, arith}
use Rattle.std.specs.Prelude.{slice_get}
use Rattle.std.specs.List.{list_any}
use Rattle.std.proofs.lemmas.Option.{slice_get-get_or}
use Rattle.vk_model.specs.Basics.{some_pair}
use Rattle.vk_model.specs.World.Areas.{Area, areas_meet}
use Rattle.vk_findings.specs.declared.areas.Area.{Area as Given}
use Rattle.vk_findings.specs.declared.finder.Met.{Met}
use Rattle.vk_findings.specs.declared.finder.Pair.{Pair}
use Rattle.vk_findings.specs.Inner.Areas.{area_of}
use Rattle.vk_findings.specs.Inner.Found.{IsMetFrom, IsPair, IsRising}
use Rattle.vk_findings.proofs.Walks.{any_later, pair_later, pair_made, cross_made}
use Rattle.vk_model.proofs.Lists.Items.{get_mapped}

-- a pair of two lists shows that some items of them meet
pub pair_reported : (xs ys : List Area) (q : Pair) → IsPair xs ys q → list_any (λ w. list_any (areas_meet w) ys) xs ≡ true
pair_reported xs ys q m = cross_made areas_meet xs ys q.one q.other m.one m.other m.one_is m.other_is m.meet

pub rising_reported : (xs : List Area) (q : Pair) → IsRising xs q → some_pair areas_meet xs ≡ true
rising_reported xs q m = pair_made areas_meet xs q.one q.other m.1.one m.1.other m.1.one_is m.1.other_is m.0 m.1.meet

-- what an area meets makes a pair
pub pair_of_met : (xs ys : List Area) (k from : ℕ) (a : Area) (m : Met) (q : Pair) → slice_get xs k ≡ Some a → IsMetFrom a ys from m → q ≡ record { one = k; other = m.number; common = m.common } → IsPair xs ys q
pair_of_met xs ys k from a m q is met e = subst (IsPair xs ys) (sym e) (record {
  one = a;
  other = met.met.other;
  one_is = is;
  other_is = met.met.other_is;
  meet = met.met.meet;
  in_one = met.met.in_one;
  in_other = met.met.in_other;
})

pub rising_of_met : (xs : List Area) (k : ℕ) (a : Area) (m : Met) (q : Pair) → slice_get xs k ≡ Some a → IsMetFrom a xs (k + 1) m → q ≡ record { one = k; other = m.number; common = m.common } → IsRising xs q
rising_of_met xs k a m q is met e =
    let Q : Pair → Type 0 = λ r. r.one < r.other in
    let lt : k < m.number = omega (arith, met.later) in
    (subst Q (sym e) lt, pair_of_met xs xs k (k + 1) a m q is met e)

module _ (xs : List Given) (k : ℕ) (d : Given) (lt : k < length xs) where
  -- the area of a number
  pub area_at : slice_get (map area_of xs) k ≡ Some (area_of (get_or xs k d))
  area_at = get_mapped area_of xs k (get_or xs k d) (slice_get-get_or xs k d lt)

  -- one that fails a test is left out
  pub any_more : (f : Area → Bool) → f (area_of (get_or xs k d)) ≡ false → list_any f (drop (k + 1) (map area_of xs)) ≡ list_any f (drop k (map area_of xs))
  any_more f fails = any_later f (map area_of xs) k (area_of (get_or xs k d)) area_at fails

  pub pair_more : list_any (areas_meet (area_of (get_or xs k d))) (drop (k + 1) (map area_of xs)) ≡ false → some_pair areas_meet (drop (k + 1) (map area_of xs)) ≡ some_pair areas_meet (drop k (map area_of xs))
  pair_more fails = pair_later areas_meet (map area_of xs) k (area_of (get_or xs k d)) area_at fails
