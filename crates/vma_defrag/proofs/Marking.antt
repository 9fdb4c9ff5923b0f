-- What becomes of moves when allocations are marked one after another.
use Rattle.std.proofs.Common.{◌≡◌, ℕ, zero, suc, ◌<◌, List, [], ◌∷◌, ◌++◌, map, set, length, get_or, Bool, true, false, ◌||◌, ◌==◌, Some, None, refl, sym, ap, ◌∙◌, arith}
use Rattle.std.specs.Prelude.{if◌then◌else◌}
use Rattle.std.specs.Ordering.{nat_cmp}
use Rattle.std.specs.Map.{lookup}
use Rattle.std.specs.BTreeMap.{is_at}
use Rattle.std.proofs.lemmas.Bool.{ne_eqb, eq-eqb}
use Rattle.std.proofs.lemmas.List.{length-map}
use Rattle.std.proofs.lemmas.List.Folds.{list_any-append}
use Rattle.std.proofs.lemmas.List.Elements.{All-nil, All-cons, All-head, All-tail}
use Rattle.vk_model.specs.Basics.{among}
use Rattle.vk_model.specs.Memory.MoveTargets.{Moved}
use Rattle.vma_defrag.specs.declared.open.Fate.{Fate}
use Rattle.vma_defrag.specs.declared.open.Planned.{Planned}
use Rattle.vma_defrag.specs.declared.open.Fate.TheVariants.{Made, Kept, Lost}
use Rattle.vma_defrag.specs.Inner.Planned.{move_of, moves_of, AreIndexed, AreMade}
use Rattle.vma_defrag.specs.Inner.Ending.{fate_in, marked, HaveFates}

module _ (f : Fate) where
  -- the move of one allocation is marked
  abbrev pub mark_one : ℕ → Planned → Planned
  mark_one a p = if p.allocation == a then record p { fate = f } else p

  mark_none : (a : ℕ) (ps : List Planned) (d : Planned) → ((k : ℕ) → k < length ps → (get_or ps k d).allocation ≡ a → ⊥) → map (mark_one a) ps ≡ ps
  mark_none a [] d none = refl
  mark_none a (p ∷ ps) d none =
      ap (λ (v : Bool). (if v then record p { fate = f } else p) ∷ map (mark_one a) ps) (ne_eqb p.allocation a (none 0 (omega arith)))
      ∙ ap (λ (l : List Planned). p ∷ l) (mark_none a ps d (λ k lt. none (suc k) (omega (arith, lt))))

  mark_set : (a : ℕ) (ps : List Planned) (i : ℕ) (d : Planned) → i < length ps → (get_or ps i d).allocation ≡ a → ((k : ℕ) → k < length ps → (get_or ps k d).allocation ≡ a → k ≡ i)
      → set ps i (record (get_or ps i d) { fate = f }) ≡ map (mark_one a) ps
  mark_set a [] i d lt is only = absurd (omega (arith, lt))
  mark_set a (p ∷ ps) zero d lt is only =
      ap (λ (l : List Planned). record p { fate = f } ∷ l) (sym (mark_none a ps d (λ k less at. let e = only (suc k) (omega (arith, less)) at in omega (arith, e))))
      ∙ ap (λ (v : Bool). (if v then record p { fate = f } else p) ∷ map (mark_one a) ps) (sym (eq-eqb p.allocation a is))
  mark_set a (p ∷ ps) (suc i) d lt is only =
      ap (λ (l : List Planned). p ∷ l) (mark_set a ps i d (omega (arith, lt)) is (λ k less at. let e = only (suc k) (omega (arith, less)) at in omega (arith, e)))
      ∙ ap (λ (v : Bool). (if v then record p { fate = f } else p) ∷ map (mark_one a) ps) (sym (ne_eqb p.allocation a (λ at. let e = only 0 (omega arith) at in absurd (omega (arith, e)))))

  -- ---- one more

  same_allocation : (ns : List ℕ) (p : Planned) → (marked ns f p).allocation ≡ p.allocation
  same_allocation ns p = go (among p.allocation ns)
    where
      go : (v : Bool) → (if v then record p { fate = f } else p).allocation ≡ p.allocation
      go true = refl
      go false = refl

  more_marked : (ns : List ℕ) (a : ℕ) (p : Planned) → marked (ns ++ a ∷ []) f p ≡ mark_one a (marked ns f p)
  more_marked ns a p =
      ap (λ (v : Bool). if v then record p { fate = f } else p) (list_any-append (λ (y : ℕ). p.allocation == y) ns (a ∷ []))
      ∙ go (among p.allocation ns) (p.allocation == a) refl
    where
      go : (v w : Bool) → (p.allocation == a) ≡ w → (if v || (w || false) then record p { fate = f } else p) ≡ mark_one a (if v then record p { fate = f } else p)
      go true w e = go-in w e
        where
          go-in : (w : Bool) → (p.allocation == a) ≡ w → record p { fate = f } ≡ (if p.allocation == a then record p { fate = f } else record p { fate = f })
          go-in true e = ap (λ (v : Bool). if v then record p { fate = f } else record p { fate = f }) (sym e)
          go-in false e = ap (λ (v : Bool). if v then record p { fate = f } else record p { fate = f }) (sym e)
      go false true e = ap (λ (v : Bool). if v then record p { fate = f } else p) (sym e)
      go false false e = ap (λ (v : Bool). if v then record p { fate = f } else p) (sym e)

  pub all_more : (ns : List ℕ) (a : ℕ) (ps : List Planned) → map (marked (ns ++ a ∷ []) f) ps ≡ map (mark_one a) (map (marked ns f) ps)
  all_more ns a [] = refl
  all_more ns a (p ∷ ps) =
      ap (λ (q : Planned). q ∷ map (marked (ns ++ a ∷ []) f) ps) (more_marked ns a p) ∙ ap (λ (l : List Planned). mark_one a (marked ns f p) ∷ l) (all_more ns a ps)

  pub marks_none : (ps : List Planned) → map (marked [] f) ps ≡ ps
  marks_none [] = refl
  marks_none (p ∷ ps) = ap (λ (l : List Planned). p ∷ l) (marks_none ps)

  get_marked : (ns : List ℕ) (ps : List Planned) (k : ℕ) (d : Planned) → k < length ps → (get_or (map (marked ns f) ps) k d).allocation ≡ (get_or ps k d).allocation
  get_marked ns [] k d lt = absurd (omega (arith, lt))
  get_marked ns (p ∷ ps) zero d lt = same_allocation ns p
  get_marked ns (p ∷ ps) (suc k) d lt = get_marked ns ps k d (omega (arith, lt))

  -- moves that are marked are found as they were
  pub marked_indexed : (ns : List ℕ) (ps : List Planned) (indices : List (ℕ × ℕ)) → AreIndexed ps indices → AreIndexed (map (marked ns f) ps) indices
  marked_indexed ns ps indices h =
      let long = length-map ps (marked ns f) in
      record {
        found = λ i k at. let o = h.found i k at in (omega (arith, o.0, long), λ d. get_marked ns ps k d o.0 ∙ o.1 d);
        all = λ k d lt.
            let below : k < length ps = omega (arith, lt, long) in
            ap (λ (a : ℕ). lookup (is_at (nat_cmp a)) indices) (get_marked ns ps k d below) ∙ h.all k d below;
      }

  module _ (ps : List Planned) (indices : List (ℕ × ℕ)) (h : AreIndexed ps indices) (a : ℕ) where
    -- an allocation that moves is marked
    pub found_marked : (i : ℕ) (d : Planned) → lookup (is_at (nat_cmp a)) indices ≡ Some i → set ps i (record (get_or ps i d) { fate = f }) ≡ map (mark_one a) ps
    found_marked i d at =
        let o = h.found a i at in
        mark_set a ps i d o.0 (o.1 d) (λ k lt is. some-is k i (sym (h.all k d lt) ∙ ap (λ (b : ℕ). lookup (is_at (nat_cmp b)) indices) is ∙ at))
      where
        some-is : (k i : ℕ) → Some k ≡ Some i → k ≡ i
        some-is k i e = cc

    -- any other changes nothing
    pub none_marked : (d : Planned) → lookup (is_at (nat_cmp a)) indices ≡ None → ps ≡ map (mark_one a) ps
    none_marked d none = sym (mark_none a ps d (λ k lt is. clash k (sym (h.all k d lt) ∙ ap (λ (b : ℕ). lookup (is_at (nat_cmp b)) indices) is ∙ none)))
      where
        clash : (k : ℕ) → Some k ≡ None → ⊥
        clash k e = absurd cc

-- ---- all of them

pub marked_moves : (f : Fate) (ns : List ℕ) (ps : List Planned) → moves_of (map (marked ns f) ps) ≡ moves_of ps
marked_moves f ns [] = refl
marked_moves f ns (p ∷ ps) = ap (λ (m : Moved). m ∷ moves_of (map (marked ns f) ps)) (go (among p.allocation ns)) ∙ ap (λ (l : List Moved). move_of p ∷ l) (marked_moves f ns ps)
  where
    go : (v : Bool) → move_of (if v then record p { fate = f } else p) ≡ move_of p
    go true = refl
    go false = refl

-- what becomes of a move that is marked as destroyed, and then as ignored
decided : (ignored destroyed : List ℕ) (p : Planned) → p.fate ≡ Made → (marked ignored Kept (marked destroyed Lost p)).fate ≡ fate_in ignored destroyed (marked ignored Kept (marked destroyed Lost p)).allocation
decided ignored destroyed p made =
    ap (λ (q : Planned). q.fate) first ∙ go (among p.allocation ignored) (among p.allocation destroyed) ∙ sym (ap (λ (i : ℕ). fate_in ignored destroyed i) its)
  where
    its : (marked ignored Kept (marked destroyed Lost p)).allocation ≡ p.allocation
    its = same_allocation Kept ignored (marked destroyed Lost p) ∙ same_allocation Lost destroyed p

    first : marked ignored Kept (marked destroyed Lost p) ≡ (if among p.allocation ignored then record (marked destroyed Lost p) { fate = Kept } else marked destroyed Lost p)
    first = ap (λ (i : ℕ). if among i ignored then record (marked destroyed Lost p) { fate = Kept } else marked destroyed Lost p) (same_allocation Lost destroyed p)

    go : (v w : Bool) → (if v then record (if w then record p { fate = Lost } else p) { fate = Kept } else if w then record p { fate = Lost } else p).fate ≡ (if v then Kept else if w then Lost else Made)
    go true w = refl
    go false true = refl
    go false false = made

pub all_decided : (ignored destroyed : List ℕ) (ps : List Planned) → AreMade ps → HaveFates ignored destroyed (map (marked ignored Kept) (map (marked destroyed Lost) ps))
all_decided ignored destroyed [] made = All-nil (λ p. p.fate ≡ fate_in ignored destroyed p.allocation)
all_decided ignored destroyed (p ∷ ps) made =
    All-cons (λ p. p.fate ≡ fate_in ignored destroyed p.allocation) (marked ignored Kept (marked destroyed Lost p)) (map (marked ignored Kept) (map (marked destroyed Lost) ps))
    (decided ignored destroyed p (All-head (λ p. p.fate ≡ Made) p ps made)) (all_decided ignored destroyed ps (All-tail (λ p. p.fate ≡ Made) p ps made))
