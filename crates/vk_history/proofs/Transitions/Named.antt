-- That what the elements of a judged point name is there, and that images stay what they are.
use Rattle.std.proofs.Common.{◌≡◌, ◌<◌, ℕ, List, [], ◌∷◌, Bool, true, false, not, ◌||◌, refl, subst, Option, Some, None, length, arith}
use Rattle.std.specs.Prelude.{IfSome, IsTrue, is_some, if◌then◌else◌, option_and_then, Contains, slice_index_or}
use Rattle.std.specs.List.{list_any, flat_map}
use Rattle.std.specs.Ordering.{nat_cmp}
use Rattle.std.specs.BTreeMap.{get}
use Rattle.std.proofs.lemmas.Bool.{not-false, or_parts}
use Rattle.std.proofs.lemmas.List.{get_or_default}
use Rattle.vk_model.specs.declared.command.Cmd.TheVariants as cmd
use Rattle.vk_model.specs.declared.command.Element.{Element}
use Rattle.vk_model.specs.declared.command.Element.TheVariants as element
use Rattle.vk_model.specs.declared.command.ImageElement.{ImageElement}
use Rattle.vk_model.specs.declared.entry.Entry.{Entry}
use Rattle.vk_model.specs.declared.resource.ImageInfo.{ImageInfo}
use Rattle.vk_model.specs.declared.rule.Rule.TheVariants as rule
use Rattle.vk_model.specs.Basics.{holds}
use Rattle.vk_model.specs.Trace.Objects.{made, ended, live, image, image_in}
use Rattle.vk_model.specs.Trace.Point.{Past, Point, Action, Host, Wait, Run, Signal, host_of, command_of}
use Rattle.vk_model.specs.Rules.Ids.{is_dead, is_image, until, asked_by, asked_by_element, lists_stray}
use Rattle.vk_model.specs.Rules.Ranges.{breaks_subresource, bad_subresource, bad_element, bad_range}
use Rattle.vk_model.specs.Rules.Table.{breaks}
use Rattle.vk_model.proofs.Rules.Fault.{unbroken_of_none}
use Rattle.vk_model.proofs.Lists.Members.{contains-head, flat_has}
use Rattle.vk_model.proofs.Lists.Failing.{fails}
use Rattle.vk_laws.proofs.Nodes.Steady.{made_until, new_ids}
use Rattle.vk_layouts.specs.ImageLayouts.{ImageLayouts}
use Rattle.vk_history.specs.declared.layouts.CurrentLayouts.{CurrentLayouts}
use Rattle.vk_history.specs.Judged.{IsJudged}
use Rattle.vk_history.specs.Layouts.{AreKept, AreOfImage, AreThere, is_there, elements_at}
use Rattle.vk_history.proofs.Kept.NextPoint.{judged_rest, unbroken, live_id, made_kept}

index_has : {X : Type 0} (xs : List X) (k : ℕ) (d : X) → k < length xs → Contains xs (slice_index_or xs k d)
index_has xs k d lt = (k, lt, get_or_default xs k (slice_index_or xs k d) d lt)

-- what is live was made, and is of the kind asked
live_is : (past : Past) (i : ℕ) (kind : Entry → Bool) → not (holds (live past i) kind) ≡ false → (x : Entry) × (made past i ≡ Some x) × (kind x ≡ true)
live_is past i kind alive = go (ended past i) (made past i) refl (not-false _ alive) where
  go : (t : Bool) (o : Option Entry) → made past i ≡ o → holds (if t then None else o) kind ≡ true → (x : Entry) × (made past i ≡ Some x) × (kind x ≡ true)
  go true o is h = absurd cc
  go false None is h = absurd cc
  go false (Some x) is h = (x, is, h)

some_image : (x : Entry) → is_image x ≡ true → (m : ImageInfo) × (image_in x ≡ Some m)
some_image x is = go (image_in x) refl is where
  go : (o : Option ImageInfo) → image_in x ≡ o → is_some o ≡ true → (m : ImageInfo) × (image_in x ≡ Some m)
  go None e h = absurd cc
  go (Some m) e h = (m, e)

module _ (past : Past) (p : Point) (j : IsJudged (p ∷ past)) where
  subresource : breaks_subresource past p ≡ false
  unfolding breaks
  subresource = unbroken past p j.faultless rule.Subresource

  module _ (es : List Element) (is : p.action ≡ Run (cmd.Barrier es)) where
    alive : list_any (is_dead (until p.entry past)) (flat_map asked_by_element es) ≡ false
    alive = (or_parts _ _ (subst (λ (d : Action). (list_any (is_dead (if is_some (host_of d) then past else until p.entry past)) (asked_by d) || holds (host_of d) (lists_stray past)) ≡ false) is (live_id past p j.faultless))).0

    inside : list_any (bad_element past) es ≡ false
    inside = subst (λ (d : Action). holds (command_of d) (bad_subresource past) ≡ false) is subresource

    image_of : (e : ImageElement) → Contains es (element.Image e) → (m : ImageInfo) × (image past e.image ≡ Some m)
    image_of e c =
        let asked = flat_has asked_by_element es (element.Image e) (e.image, is_image) c (contains-head (e.image, is_image) []) in
        let dead = fails (is_dead (until p.entry past)) (flat_map asked_by_element es) (e.image, is_image) alive asked in
        let x = live_is (until p.entry past) e.image is_image dead in
        let was = made_until p.entry past e.image x.0 (new_ids past (unbroken_of_none past (judged_rest past p j).faultless)) x.1 in
        let m = some_image x.0 x.2 in
        (m.0, rw was m.1)

    one_there : (e : Element) → Contains es e → IsTrue (is_there past e)
    one_there (element.Memory d) c = refl
    one_there (element.Buffer e) c = refl
    one_there (element.Image e) c =
        let m = image_of e c in
        let good : holds (image past e.image) (λ m. bad_range m e.range) ≡ false = fails (bad_element past) es (element.Image e) inside c in
        let of_m : bad_range m.0 e.range ≡ false = rw m.1 at good in
        rw (m.1, of_m) refl

  -- what the elements of a judged point name is there
  pub elements_there : AreThere past (elements_at p.action)
  elements_there = go p.action refl where
    go : (a : Action) → p.action ≡ a → AreThere past (elements_at a)
    go (Host x) is = λ k d lt. absurd (omega arith)
    go (Wait s) is = λ k d lt. absurd (omega arith)
    go (Signal s) is = λ k d lt. absurd (omega arith)
    go (Run (cmd.Barrier es)) is = λ k d lt. one_there es is (slice_index_or es k d) (index_has es k d lt)
    go (Run _) is = λ k d lt. absurd (omega arith)

  -- images stay what they are
  pub grown : (t : CurrentLayouts) (layouts : ℕ → ℕ → ℕ → ℕ) → AreKept t past layouts → AreKept t (p ∷ past) layouts
  grown t layouts kept = record { layouts_are = kept.layouts_are; sizes = λ i. more i (get nat_cmp t.images i) (kept.sizes i) } where
    more : (i : ℕ) (o : Option ImageLayouts) → IfSome o (AreOfImage past i) → IfSome o (AreOfImage (p ∷ past) i)
    more i None h = tt
    more i (Some s) h = (h.0, made_image i h.0 h.1, h.2) where
      made_image : (i : ℕ) (m : ImageInfo) → image past i ≡ Some m → image (p ∷ past) i ≡ Some m
      made_image i m is = go (made past i) refl is where
        go : (o : Option Entry) → made past i ≡ o → option_and_then image_in o ≡ Some m → image (p ∷ past) i ≡ Some m
        go None e h = absurd cc
        go (Some x) e h = rw (made_kept past p j.faultless i x e) h
