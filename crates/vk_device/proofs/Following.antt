-- Where a device is in its trace.
use Rattle.std.proofs.Common.{◌≡◌, ℕ, ◌+◌, List, [], ◌∷◌, ◌++◌, length, reverse, ap, sym, ◌∙◌, subst, arith}
use Rattle.std.proofs.lemmas.List.{length-reverse}
use Rattle.vk_model.specs.declared.entry.Entry.{Entry}
use Rattle.vk_model.specs.Laws.{NoFaultIsSound, OrderIsOrdered, OrderHasEntries}
use Rattle.vk_model.specs.Rules.Fault.{IsUnbroken}
use Rattle.vk_model.specs.Trace.Point.{Past, entries}
use Rattle.vk_model.specs.Trace.Order.{Front, order, order_from, after_entry}
use Rattle.vk_model.specs.Trace.Structure.{IsOrdered}
use Rattle.vk_model.specs.Run.Runs.{Stage, past_with}
use Rattle.vk_model.proofs.Trace.Growing.{order_append, order_grows}
use Rattle.vk_model.proofs.Trace.Older.{ordered_older}
use Rattle.vk_laws.specs.DefinedRuns.{FollowsTrace}
use Rattle.vk_device.specs.Led.{IsSoundTrace}
use Rattle.vk_device.specs.Inner.Clean.{IsClean}
use Rattle.vk_device.specs.Inner.Fits.{AllFit}
use Rattle.vk_device.proofs.Clean.{fits_clean, clean_newer}
use Rattle.vk_offers.proofs.Coming.{unbroken_before}

abbrev nothing : Front
nothing = record { past = []; waiting = [] }

-- what has happened with the next entry is the older part of the whole order
pub prefix : (t : List Entry) (s : Stage) (x : Entry) (xs : List Entry) → FollowsTrace t s → s.left ≡ x ∷ xs → (newer : Past) × (order t ≡ newer ++ past_with s x)
prefix t s x xs st left =
    let g = order_grows (0 + length st.gone + 1) (after_entry (0 + length st.gone) x (order_from 0 nothing st.gone)) xs in
    let whole : order t ≡ (order_from 0 nothing (st.gone ++ x ∷ xs)).past = ap order (st.whole ∙ ap (λ (ys : List Entry). st.gone ++ ys) left) in
    let parts : (order_from 0 nothing (st.gone ++ x ∷ xs)).past ≡ (order_from (0 + length st.gone) (order_from 0 nothing st.gone) (x ∷ xs)).past = ap (λ (f : Front). f.past) (order_append 0 nothing st.gone (x ∷ xs)) in
    let count : 0 + length st.gone ≡ s.count = omega (arith, st.counted) in
    let here : (after_entry (0 + length st.gone) x (order_from 0 nothing st.gone)).past ≡ past_with s x =
    ap (λ (k : ℕ). (after_entry k x (order_from 0 nothing st.gone)).past) count ∙ ap (λ (f : Front). (after_entry s.count x f).past) (sym st.front) in
    (g.0, whole ∙ parts ∙ g.1 ∙ ap (λ (p : Past). g.0 ++ p) here)

-- the entries that were applied are counted
pub counted : OrderHasEntries → (t : List Entry) (s : Stage) → FollowsTrace t s → s.count ≡ length (entries s.front.past)
counted has t s st =
    let all : entries (order st.gone) ≡ reverse st.gone = has st.gone in
    st.counted ∙ sym (length-reverse st.gone) ∙ ap length (sym all) ∙ ap (λ (f : Front). length (entries f.past)) (sym st.front)

-- ---- a trace without a fault

pub unbroken : NoFaultIsSound → (t : List Entry) → IsSoundTrace t → IsUnbroken (order t)
unbroken law t sound = (law t).0 sound.faultless

pub clean : NoFaultIsSound → (t : List Entry) → IsSoundTrace t → IsClean (order t)
clean law t sound = record { sound = λ before p r comes broken. unbroken law t sound before p r (comes, broken) }

module _ (law : NoFaultIsSound) (ordered : OrderIsOrdered) (t : List Entry) (s : Stage) (x : Entry) (xs : List Entry) (st : FollowsTrace t s) (left : s.left ≡ x ∷ xs) (sound : IsSoundTrace t) where
  pub next_unbroken : IsUnbroken (past_with s x)
  next_unbroken = let p = prefix t s x xs st left in unbroken_before (order t) p.0 (past_with s x) p.1 (unbroken law t sound)

  pub next_ordered : IsOrdered (past_with s x)
  next_ordered = let p = prefix t s x xs st left in ordered_older p.0 (past_with s x) (subst (λ (all : Past). IsOrdered all) p.1 (ordered t))

-- what has happened is the older part of the whole order
pub so_far : (t : List Entry) (s : Stage) → FollowsTrace t s → (newer : Past) × (order t ≡ newer ++ s.front.past)
so_far t s st =
    let g = order_grows (0 + length st.gone) (order_from 0 nothing st.gone) s.left in
    (g.0, ap order st.whole ∙ ap (λ (f : Front). f.past) (order_append 0 nothing st.gone s.left) ∙ g.1 ∙ ap (λ (f : Front). g.0 ++ f.past) (sym st.front))

pub fits_so_far : NoFaultIsSound → (t : List Entry) (s : Stage) → FollowsTrace t s → IsSoundTrace t → AllFit s.front.past
fits_so_far law t s st sound = let p = so_far t s st in fits_clean s.front.past (clean_newer p.0 s.front.past (subst (λ (all : Past). IsClean all) p.1 (clean law t sound)))
