-- What slots hold after a split and a merge.
use Rattle.std.proofs.Common.{◌≡◌, ℕ, ◌+◌, ◌-◌, ◌<◌, inl, inr, List, true, false, Option, Some, None, get_or, set, refl, ap, sym, ◌∙◌, arith}
use Rattle.std.specs.Prelude.{MatchOption, IfSome, is_some}
use Rattle.std.proofs.lemmas.Bool.{cases_eq}
use Rattle.vk_nodes.specs.declared.node.Node.{Node}
use Rattle.vk_nodes.specs.declared.node.RangeState.{RangeState}
use Rattle.vk_nodes.specs.declared.change.Change.TheVariants.{Before}
use Rattle.vk_nodes.specs.Changes.{IsChanged}
use Rattle.vk_nodes.proofs.SlotLemmas.{node-held}
use Rattle.vma_tlsf.specs.Inner.Chain.{Range, range, range_in, seen}
use Rattle.vma_tlsf.specs.Inner.Steps.{IsHeld, IsAfterHeld, IsRelinked, IsSplit, IsMerged, KeepsHeld}
use Rattle.vma_tlsf.proofs.Slots.{held_here, set_there, set_elsewhere, held-set, range_there, node_of}
use Rattle.vma_tlsf.proofs.Splits.{some_same, none_some}

-- whether the slot of the range after is held, and which
module _ (nodes : List (Option Node)) (node : Node) (slot other : ℕ) where
  pub after_held : IsAfterHeld nodes node slot other → IfSome node.after (λ next. IsHeld nodes next)
  after_held h = cases node.after h
    where
      cases : (o : Option ℕ) → MatchOption o (Unit {0}) (λ j. IsHeld nodes j × (j ≡ slot → ⊥) × (j ≡ other → ⊥)) → IfSome o (λ next. IsHeld nodes next)
      cases None h = search
      cases (Some j) h = h.0

  pub after_apart : IsAfterHeld nodes node slot other → (j : ℕ) → node.after ≡ Some j → (IsHeld nodes j × (j ≡ slot → ⊥) × (j ≡ other → ⊥))
  after_apart h j e = cases node.after h e
    where
      cases : (o : Option ℕ) → MatchOption o (Unit {0}) (λ j. IsHeld nodes j × (j ≡ slot → ⊥) × (j ≡ other → ⊥)) → o ≡ Some j → (IsHeld nodes j × (j ≡ slot → ⊥) × (j ≡ other → ⊥))
      cases None h e = absurd cc
      cases (Some k) h e = let same : k ≡ j = cc in (rw (sym same) h.0, λ f. h.1 (same ∙ f), λ f. h.2 (same ∙ f))

-- relinking keeps what is held
pub relinked_held : (a b : List (Option Node)) (after : Option ℕ) (before : ℕ) → IfSome after (λ next. IsHeld a next) → IsRelinked a b after before → (i : ℕ) → IsHeld a i → IsHeld b i
relinked_held a b None before h made i held = rw (made.others i (λ e. none_some i None refl e)) held
relinked_held a b (Some k) before h made i held = elim (cases_eq i k) [
  | inl e ↦ there (get_or a i None) refl held e
  | inr other ↦ rw (made.others i (λ e. other (sym (some_same k i e)))) held
]
  where
    there : (x : Option Node) → get_or a i None ≡ x → IsHeld a i → i ≡ k → IsHeld b i
    there None is held e = absurd (let no : false ≡ true = sym (ap is_some is) ∙ held in cc)
    there (Some n) is held e = held_here b i (record n { before = Some before }) (made.next i n (ap Some (sym e)) is)

-- the node of the slot after is changed
pub relinked_made : (a b : List (Option Node)) (after : Option ℕ) (next before : ℕ) → after ≡ Some next → IsHeld a next → IsChanged a b next (Before before) → IsRelinked a b after before
relinked_made a b after next before is held made =
    let node = node-held a next held in
    record {
      next = λ j n on there.
          let same : j ≡ next = sym (some_same next j (sym is ∙ on)) in
          let here : get_or a next None ≡ Some n = ap (λ k. get_or a k None) (sym same) ∙ there in
          rw (same, made n here) (set_there a next held (Some (record n { before = Some before })));
      others = λ i not. rw (made node.0 node.1) (set_elsewhere a next held (Some (record node.0 { before = Some before })) i (λ e. not (is ∙ ap Some (sym e))));
    }

-- relinking the range after another keeps the node of the slot
pub relinked_kept : (a b : List (Option Node)) (slot other before : ℕ) (node last : Node) → get_or a slot None ≡ Some node → IsAfterHeld a last slot other → IsRelinked a b last.after before → get_or b slot None ≡ Some node
relinked_kept a b slot other before node last here after relinked = relinked.others slot (λ e. (after_apart a last slot other after slot e).1 refl) ∙ here

-- so does a node in a fresh slot
pub fresh_kept : (a b : List (Option Node)) (slot fresh : ℕ) (node new : Node) → get_or a slot None ≡ Some node → IsHeld a fresh → (slot ≡ fresh → ⊥) → IsAfterHeld a node slot fresh → IsRelinked a b node.after fresh → get_or (set b fresh (Some new)) slot None ≡ Some node
fresh_kept a b slot fresh node new here held other after relinked =
    set_elsewhere b fresh (relinked_held a b node.after fresh (after_held a node slot fresh after) relinked fresh held) (Some new) slot other
    ∙ relinked_kept a b slot fresh fresh node node here after relinked

module _ (a b : List (Option Node)) (slot fresh : ℕ) (node : Node) (size : ℕ) (front back : RangeState)
    (here : get_or a slot None ≡ Some node) (held : IsHeld a fresh) (other : slot ≡ fresh → ⊥)
    (after : IsAfterHeld a node slot fresh) (some : 0 < size) (less : size < node.size)
    (relinked : IsRelinked a b node.after fresh)
    (x y : Node) (x_is : range x ≡ record { start = node.start; size = size; before = node.before; after = Some fresh; state = front })
    (y_is : range y ≡ record { start = node.start + size; size = node.size - size; before = Some slot; after = node.after; state = back }) where
  held_b : (i : ℕ) → IsHeld a i → IsHeld b i
  held_b = relinked_held a b node.after fresh (after_held a node slot fresh after) relinked

  abbrev c : List (Option Node)
  c = set b fresh (Some y)

  held_c : (i : ℕ) → IsHeld a i → IsHeld c i
  held_c i h = held-set b fresh (held_b fresh held) (Some y) refl i (held_b i h)

  abbrev d : List (Option Node)
  d = set c slot (Some x)

  held_slot : IsHeld c slot
  held_slot = held_c slot (held_here a slot node here)

  pub split_held : (i : ℕ) → IsHeld a i → IsHeld d i
  split_held i h = held-set c slot held_slot (Some x) refl i (held_c i h)

  d_slot : get_or d slot None ≡ Some x
  d_slot = set_there c slot held_slot (Some x)

  d_fresh : get_or d fresh None ≡ Some y
  d_fresh = set_elsewhere c slot held_slot (Some x) fresh (λ e. other (sym e)) ∙ set_there b fresh (held_b fresh held) (Some y)

  d_other : (i : ℕ) → (i ≡ slot → ⊥) → (i ≡ fresh → ⊥) → get_or d i None ≡ get_or b i None
  d_other i ns nf = set_elsewhere c slot held_slot (Some x) i ns ∙ set_elsewhere b fresh (held_b fresh held) (Some y) i nf

  x_size : x.size ≡ size
  x_size = ap (λ r. r.size) x_is

  y_size : y.size ≡ node.size - size
  y_size = ap (λ r. r.size) y_is

  pub split_made : IsSplit (seen a) (seen d) slot fresh (range node) size front back
  split_made = record {
    front_there = ap range_in d_slot ∙ range_there x (let e = x_size in omega arith) ∙ ap Some x_is;
    back_there = ap range_in d_fresh ∙ range_there y (let e = y_size in omega arith) ∙ ap Some y_is;
    next = λ j e q there.
        let apart = after_apart a node slot fresh after j e in
        let m = node_of (get_or a j None) q there in
        ap range_in (d_other j apart.1 apart.2 ∙ relinked.next j m.node e m.there)
        ∙ range_there (record m.node { before = Some fresh }) m.some
        ∙ ap {A = Range} (λ r. Some (record r { before = Some fresh })) m.same;
    others = λ i ns nf na. ap range_in (d_other i ns nf ∙ relinked.others i na);
  }

module _ (a b : List (Option Node)) (slot gone : ℕ) (node last : Node) (state : RangeState)
    (here : get_or a slot None ≡ Some node) (there : get_or a gone None ≡ Some last) (other : slot ≡ gone → ⊥)
    (after : IsAfterHeld a last slot gone) (some : 0 < node.size)
    (relinked : IsRelinked a b last.after slot)
    (x : Node) (x_is : range x ≡ record { start = node.start; size = node.size + last.size; before = node.before; after = last.after; state = state }) where
  held_bm : (i : ℕ) → IsHeld a i → IsHeld b i
  held_bm = relinked_held a b last.after slot (after_held a last slot gone after) relinked

  abbrev cm : List (Option Node)
  cm = set b slot (Some x)

  held_b_slot : IsHeld b slot
  held_b_slot = held_bm slot (held_here a slot node here)

  held_cm : (i : ℕ) → IsHeld a i → IsHeld cm i
  held_cm i h = held-set b slot held_b_slot (Some x) refl i (held_bm i h)

  abbrev dm : List (Option Node)
  dm = set cm gone None

  pub held_gone : IsHeld cm gone
  held_gone = held_cm gone (held_here a gone last there)

  pub merged_held : KeepsHeld a dm gone
  merged_held i not h = rw (set_elsewhere cm gone held_gone None i not) (held_cm i h)

  dm_other : (i : ℕ) → (i ≡ slot → ⊥) → (i ≡ gone → ⊥) → get_or dm i None ≡ get_or b i None
  dm_other i ns ng = set_elsewhere cm gone held_gone None i ng ∙ set_elsewhere b slot held_b_slot (Some x) i ns

  x_long : x.size ≡ node.size + last.size
  x_long = ap (λ r. r.size) x_is

  pub merge_made : IsMerged (seen a) (seen dm) slot gone (range node) (range last) state
  merge_made = record {
    there = ap range_in (set_elsewhere cm gone held_gone None slot other ∙ set_there b slot held_b_slot (Some x)) ∙ range_there x (let e = x_long in omega arith) ∙ ap Some x_is;
    none = ap range_in (set_there cm gone held_gone None);
    next = λ j e q is.
        let apart = after_apart a last slot gone after j e in
        let m = node_of (get_or a j None) q is in
        ap range_in (dm_other j apart.1 apart.2 ∙ relinked.next j m.node e m.there)
        ∙ range_there (record m.node { before = Some slot }) m.some
        ∙ ap {A = Range} (λ r. Some (record r { before = Some slot })) m.same;
    others = λ i ns ng na. ap range_in (dm_other i ns ng ∙ relinked.others i na);
  }
