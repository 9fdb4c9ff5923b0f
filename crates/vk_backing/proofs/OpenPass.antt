-- What holds of defragmentations where the open pass changes.
use Rattle.std.proofs.Common.{◌≡◌, ℕ, List, [], Option, Some, None, refl, sym, ap, subst, ◌∙◌, inl, inr, ◌⊎◌}
use Rattle.std.specs.Prelude.{IsSome, option_map}
use Rattle.std.specs.Ordering.{nat_cmp}
use Rattle.std.specs.Map.{lookup}
use Rattle.std.specs.BTreeMap.{BTreeMap, WritesThrough, is_at}
use Rattle.std.proofs.lemmas.Bool.{cases_eq}
use Rattle.vk_model.specs.Memory.MoveTargets.{Moved}
use Rattle.vk_model.proofs.Lists.Keys.{other_key}
use Rattle.vma_pools.specs.State.{PoolsState, pool_at}
use Rattle.vma_pools.proofs.StateLemmas.{some-is}
use Rattle.vma_defrag.specs.State.{DefragState, PassState, left_in, moves_in, with_left}
use Rattle.vma_defrag.specs.Plans.{ArePlanned}
use Rattle.vk_backing.specs.Backed.{Backed}
use Rattle.vk_backing.specs.Passing.{Passing, defrag_in, open_defrag, open_moves, moves_by, moves_in_pool, moves_on, parts_left, left_by, IsDefragOf, AreMovers, ArePassing}
use Rattle.vk_backing.proofs.Passing.{moves_elsewhere, moves_here, open_is, open_planned}

-- what a map lent was written at its key
pub lent : {X : Type 0} (m n : BTreeMap ℕ X) (id : ℕ) (w x : X) → WritesThrough nat_cmp (nat_cmp id) m w n → lookup (is_at (nat_cmp id)) m.entries ≡ Some x → (lookup (is_at (nat_cmp id)) n.entries ≡ Some w) × ((i : ℕ) → (i ≡ id → ⊥) → lookup (is_at (nat_cmp i)) n.entries ≡ lookup (is_at (nat_cmp i)) m.entries)
lent {X = X} m n id w x writes was =
    let u = writes.3 (subst (λ (o : Option X). IsSome o) (sym was) refl) in (u.1, λ i other. u.2 i (other_key id i other))

-- what a pass plans in its pool, where nothing is planned elsewhere
pub planned_in : (p : Passing) (s : PoolsState) (d : DefragState) → open_defrag p ≡ Some d → ArePlanned s d.pool (moves_in d.current) → ((n : ℕ) → (d.pool ≡ n → ⊥) → ArePlanned s n []) → (n : ℕ) → ArePlanned s n (moves_in_pool p n)
planned_in p s d is plan none n =
    subst (λ (o : Option DefragState). ArePlanned s n (moves_on n o)) (sym is) (elim (cases_eq d.pool n) [
      | inl e ↦ subst (λ (ms : List Moved). ArePlanned s n ms) (sym (moves_here d n e)) (subst (λ (j : ℕ). ArePlanned s j (moves_in d.current)) e plan)
      | inr other ↦ subst (λ (ms : List Moved). ArePlanned s n ms) (sym (moves_elsewhere d n other)) (none n other)
    ])

module _ (old new : Passing) (b c : Backed) (h : ArePassing old b) (id : ℕ) (d e : DefragState) (was : defrag_in old id ≡ Some d) (here : defrag_in new id ≡ Some e) (others : (i : ℕ) → (i ≡ id → ⊥) → defrag_in new i ≡ defrag_in old i) (pool : e.pool ≡ d.pool)
    (alone : (i : ℕ) → old.opened ≡ Some i → i ≡ id) (kept : (x : DefragState) → IsDefragOf b x → IsDefragOf c x) where
  its_pool : IsDefragOf c e
  its_pool = let k = kept d (h.pools id d was) in record { kept = k.kept; there = subst (λ (n : ℕ). pool_at c.pools n ≡ Some k.kept) (sym pool) k.there; general = k.general; id = k.id; named = k.named ∙ ap (λ (n : ℕ). Some n) (sym pool) }

  each : (i : ℕ) (x : DefragState) → defrag_in new i ≡ Some x → ((i ≡ id) × (e ≡ x)) ⊎ ((i ≡ id → ⊥) × (defrag_in old i ≡ Some x))
  each i x is = elim (cases_eq i id) [
    | inl same ↦ inl (same, some-is e x (sym here ∙ ap (λ (j : ℕ). defrag_in new j) (sym same) ∙ is))
    | inr other ↦ inr (other, sym (others i other) ∙ is)
  ]

  pub turned_passing : ((new.opened ≡ Some id → ⊥) → e.current ≡ None) → ((i : ℕ) → new.opened ≡ Some i → (i ≡ id) × IsSome e.current) → ((n : ℕ) → ArePlanned c.pools n (moves_in_pool new n)) → AreMovers c new.moving (open_moves new) → ArePassing new c
  turned_passing shut opened planned movers = record {
    pools = λ i x is. elim (each i x is) [ inl mine ↦ subst (λ (y : DefragState). IsDefragOf c y) mine.1 its_pool | inr old ↦ kept x (h.pools i x old.1) ];
    closed = λ i x is away. elim (each i x is) [
      | inl mine ↦ subst (λ (y : DefragState). y.current ≡ None) mine.1 (shut (λ o. away (o ∙ ap (λ (j : ℕ). Some j) (sym mine.0))))
      | inr old ↦ h.closed i x old.1 (λ o. old.0 (alone i o))
    ];
    opened = λ i is. (let o = opened i is in (e, ap (λ (j : ℕ). defrag_in new j) o.0 ∙ here, o.1));
    planned = planned;
    movers = movers;
  }

-- ---- parts are copied

pub moves_stay : (left : List ℕ) (o : Option PassState) → moves_in (with_left left (record { pool = 0; max_bytes = 0; max_moves = 0; current = o })).current ≡ moves_in o
moves_stay left None = refl
moves_stay left (Some p) = refl

left_now : (left : List ℕ) (o : Option PassState) → IsSome o → left_in (with_left left (record { pool = 0; max_bytes = 0; max_moves = 0; current = o })).current ≡ left
left_now left None some = absurd cc
left_now left (Some p) some = refl

still_some : (left : List ℕ) (o : Option PassState) → IsSome o → IsSome (with_left left (record { pool = 0; max_bytes = 0; max_moves = 0; current = o })).current
still_some left None some = some
still_some left (Some p) some = refl

module _ (old new : Passing) (b : Backed) (h : ArePassing old b) (id : ℕ) (d : DefragState) (is : old.opened ≡ Some id) (was : defrag_in old id ≡ Some d) (left : List ℕ) (here : defrag_in new id ≡ Some (with_left left d)) (others : (i : ℕ) → (i ≡ id → ⊥) → defrag_in new i ≡ defrag_in old i) (opened : new.opened ≡ old.opened) (moving : new.moving ≡ old.moving) where
  open_was : open_defrag old ≡ Some d
  open_was = open_is old id is ∙ was

  pub left_pools : (i : ℕ) → option_map (λ (x : DefragState). x.pool) (defrag_in new i) ≡ option_map (λ (x : DefragState). x.pool) (defrag_in old i)
  left_pools i = elim (cases_eq i id) [
    | inl e ↦ ap (λ (j : ℕ). option_map (λ (x : DefragState). x.pool) (defrag_in new j)) e ∙ ap (λ (o : Option DefragState). option_map (λ (x : DefragState). x.pool) o) here
        ∙ sym (ap (λ (j : ℕ). option_map (λ (x : DefragState). x.pool) (defrag_in old j)) e ∙ ap (λ (o : Option DefragState). option_map (λ (x : DefragState). x.pool) o) was)
    | inr other ↦ ap (λ (o : Option DefragState). option_map (λ (x : DefragState). x.pool) o) (others i other)
  ]

  open_now : open_defrag new ≡ Some (with_left left d)
  open_now = open_is new id (opened ∙ is) ∙ here

  some : IsSome d.current
  some = let o = h.opened id is in subst (λ (x : DefragState). IsSome x.current) (some-is o.0 d (sym o.1 ∙ was)) o.2

  pub left_moves : open_moves new ≡ open_moves old
  left_moves = ap moves_by open_now ∙ moves_stay left d.current ∙ sym (ap moves_by open_was)

  pub left_parts : parts_left new ≡ left
  left_parts = ap left_by open_now ∙ left_now left d.current some

  pub left_passing : ArePassing new b
  left_passing =
      turned_passing old new b b h id d (with_left left d) was here others refl (λ i o. some-is i id (sym o ∙ is)) (λ x its. its) (λ away. absurd (away (opened ∙ is)))
      (λ i o. (some-is i id (sym o ∙ opened ∙ is), still_some left d.current some))
      (planned_in new b.pools (with_left left d) open_now (subst (λ (ms : List Moved). ArePlanned b.pools d.pool ms) (sym (moves_stay left d.current)) (open_planned old b h d open_was))
      (λ n other. subst (λ (ms : List Moved). ArePlanned b.pools n ms) (moves_elsewhere d n other) (subst (λ (o : Option DefragState). ArePlanned b.pools n (moves_on n o)) open_was (h.planned n))))
      (subst (λ (ids : List ℕ). AreMovers b ids (open_moves new)) (sym moving) (subst (λ (ms : List Moved). AreMovers b old.moving ms) (sym left_moves) h.movers))
