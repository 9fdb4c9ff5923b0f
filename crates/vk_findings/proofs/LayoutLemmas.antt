-- What points do to the layout of one subresource.
use Rattle.std.proofs.Common.{◌≡◌, ◌<◌, ◌≤◌, ◌+◌, ℕ, List, [], ◌∷◌, ◌++◌, length, take, get_or, Bool, true, false, cond, ◌&&◌, ◌||◌, refl, ap, sym, ◌∙◌, subst}
use Rattle.std.specs.Prelude.{if◌then◌else◌, ◌==◌, Some}
use Rattle.std.proofs.lemmas.List.{take_all}
use Rattle.std.specs.List.{find, fold, list_any}
use Rattle.vk_model.specs.declared.command.BufferElement.{BufferElement}
use Rattle.vk_model.specs.declared.command.Element.{Element}
use Rattle.vk_model.specs.declared.command.Element.TheVariants as element
use Rattle.vk_model.specs.declared.command.Families.{Families}
use Rattle.vk_model.specs.declared.command.ImageElement.{ImageElement}
use Rattle.vk_model.specs.Trace.Point.{Past, Point, Action, Host, Wait, Run, Signal}
use Rattle.vk_model.specs.World.Bytes.{World}
use Rattle.vk_model.specs.World.ByteWrites.{byte_writes}
use Rattle.vk_model.specs.World.Effect.{world, used, after_writes, after_element, after_buffer_element, after_image_element, after_action}
use Rattle.vk_model.specs.World.Ownership.{Transfer, Stays, Release, Acquire, Neither, transfer, acquires, is_transition, family_of, uses, elements_of}
use Rattle.vk_laws.proofs.Forms.Unchanged.{used_layout, ready_layout, host_layout}
use Rattle.vk_model.specs.declared.point.Point.{Point as ProgramPoint}
use Rattle.vk_model.specs.Trace.PointViews.{point_of}
use Rattle.vk_queues.specs.PointViews.{past_of}
use Rattle.vk_hazards.proofs.PastLemmas.{past_item, past_push}
use Rattle.vk_findings.specs.Layouts.{takes_place, names_at, changes_at, transitions}
use Rattle.vk_findings.specs.Inner.LayoutSteps.{elements_in, layout_by, layout_by_point, layout_in, new_layout_of, takes_some, ShowLayouts}

-- ---- elements

-- whether a transition takes place at what an element does with ownership
abbrev changes : Transfer → Bool
changes Stays = true
changes Acquire = true
changes _ = false

choose : (a b c : Bool) → (a || acquires (if a then Stays else if b then Release else if c then Acquire else Neither)) ≡ changes (if a then Stays else if b then Release else if c then Acquire else Neither)
choose true b c = refl
choose false true c = refl
choose false false true = refl
choose false false false = refl

chosen : (f : ℕ) (t : Families) → (t.source == t.destination || acquires (transfer f t)) ≡ changes (transfer f t)
chosen f t = choose (t.source == t.destination) (t.source == f) (t.destination == f)

module _ (i k l : ℕ) where
  buffer_layout : (past : Past) (f : ℕ) (e : BufferElement) (t : Transfer) (w : World) → (after_buffer_element past f e t w).layout i k l ≡ w.layout i k l
  buffer_layout past f e Stays w = refl
  buffer_layout past f e Release w = ap (λ (at : ℕ → ℕ → ℕ → ℕ). at i k l) (used_layout past f e.buffer w)
  buffer_layout past f e Acquire w = refl
  buffer_layout past f e Neither w = refl

  -- the layout after an image element that does this with ownership
  image_layout : (past : Past) (f : ℕ) (e : ImageElement) (t : Transfer) (w : World)
      → (after_image_element past f e t w).layout i k l ≡ (if (is_transition e && changes t) && names_at i k l (element.Image e) then e.new_layout else w.layout i k l)
  image_layout past f e t w = go (is_transition e) refl t
    where
      go : (b : Bool) → is_transition e ≡ b → (t : Transfer) → (after_image_element past f e t w).layout i k l ≡ (if (is_transition e && changes t) && names_at i k l (element.Image e) then e.new_layout else w.layout i k l)
      go true is Stays = rw is (ap (λ (at : ℕ → ℕ → ℕ → ℕ). if names_at i k l (element.Image e) then e.new_layout else at i k l) (used_layout past f e.image w))
      go true is Release = rw is (ap (λ (at : ℕ → ℕ → ℕ → ℕ). at i k l) (used_layout past f e.image w))
      go true is Acquire = rw is refl
      go true is Neither = rw is refl
      go false is Stays = rw is refl
      go false is Release = rw is (ap (λ (at : ℕ → ℕ → ℕ → ℕ). at i k l) (used_layout past f e.image w))
      go false is Acquire = rw is refl
      go false is Neither = rw is refl

  element_layout : (past : Past) (q : ℕ) (w : World) (e : Element) → (after_element past (family_of q) w e).layout i k l ≡ layout_by q i k l (w.layout i k l) e
  element_layout past q w (element.Memory d) = refl
  element_layout past q w (element.Buffer e) = buffer_layout past (family_of q) e (transfer (family_of q) e.families) w
  element_layout past q w (element.Image e) =
      image_layout past (family_of q) e (transfer (family_of q) e.families) w
      ∙ ap (λ (b : Bool). if (is_transition e && b) && names_at i k l (element.Image e) then e.new_layout else w.layout i k l) (sym (chosen (family_of q) e.families))

  elements_layout : (past : Past) (q : ℕ) (es : List Element) (w : World) → (fold (after_element past (family_of q)) w es).layout i k l ≡ fold (layout_by q i k l) (w.layout i k l) es
  elements_layout past q [] w = refl
  elements_layout past q (e ∷ es) w = elements_layout past q es (after_element past (family_of q) w e) ∙ ap (λ (b : ℕ). fold (layout_by q i k l) b es) (element_layout past q w e)

  -- ---- points

  point_layout : (past : Past) (p : Point) (w : World) → (after_action past p.queue p.action w).layout i k l ≡ layout_by_point i k l p (w.layout i k l)
  point_layout past p w = go p.action
    where
      go : (a : Action) → (after_action past p.queue a w).layout i k l ≡ fold (layout_by p.queue i k l) (w.layout i k l) (elements_in a)
      go (Host x) = ap (λ (at : ℕ → ℕ → ℕ → ℕ). at i k l) (host_layout past x w)
      go (Wait s) = refl
      go (Signal s) = refl
      go (Run c) =
          let ready : World = fold (λ v r. used past (family_of p.queue) r v) w (uses c) in
          elements_layout past p.queue (elements_of c) (record ready { value = after_writes (byte_writes past c) ready.value })
          ∙ ap (λ (at : ℕ → ℕ → ℕ → ℕ). fold (layout_by p.queue i k l) (at i k l) (elements_of c)) (ready_layout past (family_of p.queue) (uses c) w)

  pub world_layout : (past : Past) → layout_in i k l past ≡ (world past).layout i k l
  world_layout [] = refl
  world_layout (p ∷ past) = ap (layout_by_point i k l p) (world_layout past) ∙ sym (point_layout past p (world past))

  -- ---- points in which no transition takes place

  none_named : (q : ℕ) (es : List Element) → list_any (takes_place q) es ≡ false → list_any (changes_at q i k l) es ≡ false
  none_named q [] none = refl
  none_named q (e ∷ es) none = go (takes_place q e) none (none_named q es)
    where
      go : (b : Bool) → (b || list_any (takes_place q) es) ≡ false → (list_any (takes_place q) es ≡ false → list_any (changes_at q i k l) es ≡ false) → ((b && names_at i k l e) || list_any (changes_at q i k l) es) ≡ false
      go true n rest = absurd cc
      go false n rest = rest n

  none_set : (q : ℕ) (es : List Element) (before : ℕ) → list_any (changes_at q i k l) es ≡ false → fold (layout_by q i k l) before es ≡ before
  none_set q [] before none = refl
  none_set q (e ∷ es) before none = go (changes_at q i k l e) none (none_set q es)
    where
      go : (b : Bool) → (b || list_any (changes_at q i k l) es) ≡ false → ((m : ℕ) → list_any (changes_at q i k l) es ≡ false → fold (layout_by q i k l) m es ≡ m) → fold (layout_by q i k l) (if b then new_layout_of e else before) es ≡ before
      go true n rest = absurd cc
      go false n rest = rest before n

  quiet : (p : Point) → takes_some p ≡ false → transitions i k l p ≡ false
  quiet p none = go p.action none
    where
      go : (a : Action) → takes_some (record p { action = a }) ≡ false → transitions i k l (record p { action = a }) ≡ false
      go (Host x) n = refl
      go (Wait s) n = refl
      go (Signal s) n = refl
      go (Run c) n = none_named p.queue (elements_of c) n

  still : (p : Point) (before : ℕ) → transitions i k l p ≡ false → layout_by_point i k l p before ≡ before
  still p before none = go p.action none
    where
      go : (a : Action) → transitions i k l (record p { action = a }) ≡ false → fold (layout_by p.queue i k l) before (elements_in a) ≡ before
      go (Host x) n = refl
      go (Wait s) n = refl
      go (Signal s) n = refl
      go (Run c) n = none_set p.queue (elements_of c) before n

-- ---- points that show the layouts of a past

-- they have the layouts and the last transitions that others give
pub record KeepLayouts (kept past : Past) : Type 0 where
  pub layouts : (i k l : ℕ) → layout_in i k l kept ≡ layout_in i k l past
  pub since : (i k l : ℕ) → find (transitions i k l) kept ≡ find (transitions i k l) past

pub keep_more : (kept past : Past) (p : Point) → KeepLayouts kept past → KeepLayouts (p ∷ kept) (p ∷ past)
keep_more kept past p have = record {
  layouts = λ i k l. ap (layout_by_point i k l p) (have.layouts i k l);
  since = λ i k l. ap (cond (transitions i k l p) (Some p)) (have.since i k l);
}

pub keep_less : (kept past : Past) (p : Point) → takes_some p ≡ false → KeepLayouts kept past → KeepLayouts kept (p ∷ past)
keep_less kept past p none have = record {
  layouts = λ i k l. have.layouts i k l ∙ sym (still i k l p (layout_in i k l past) (quiet i k l p none));
  since = λ i k l. have.since i k l ∙ ap (λ (b : Bool). cond b (Some p) (find (transitions i k l) past)) (sym (quiet i k l p none));
}

pub show_layouts : (kept past : Past) → KeepLayouts kept past → ShowLayouts kept past
show_layouts kept past have = record { layouts = λ i k l. have.layouts i k l ∙ world_layout i k l past; since = have.since }

-- ---- a walk over points

pub keep_pushed : (ps ks more : List ProgramPoint) (k : ℕ) (p : ProgramPoint) → k < length ps → p ≡ get_or ps k p → more ≡ ks ++ p ∷ [] → KeepLayouts (past_of ks) (past_of (take k ps)) → KeepLayouts (past_of more) (past_of (take (k + 1) ps))
keep_pushed ps ks more k p lt is same have =
    let pushed : past_of more ≡ point_of p ∷ past_of ks = ap past_of same ∙ past_push ks p in
    rw (pushed, past_item ps k p lt is) (keep_more (past_of ks) (past_of (take k ps)) (point_of p) have)

pub keep_passed : (ps ks : List ProgramPoint) (k : ℕ) (p : ProgramPoint) → k < length ps → p ≡ get_or ps k p → takes_some (point_of p) ≡ false → KeepLayouts (past_of ks) (past_of (take k ps)) → KeepLayouts (past_of ks) (past_of (take (k + 1) ps))
keep_passed ps ks k p lt is none have = rw (past_item ps k p lt is) (keep_less (past_of ks) (past_of (take k ps)) (point_of p) none have)

pub show_all_layouts : (ps ks : List ProgramPoint) (k : ℕ) → length ps ≤ k → KeepLayouts (past_of ks) (past_of (take k ps)) → ShowLayouts (past_of ks) (past_of ps)
show_all_layouts ps ks k le have = show_layouts (past_of ks) (past_of ps) (subst (λ (xs : List ProgramPoint). KeepLayouts (past_of ks) (past_of xs)) (take_all k ps le) have)
