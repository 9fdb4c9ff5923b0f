-- Where a resource may be put.
use Rattle.std.proofs.Common.{◌≡◌, ℕ, List, Bool, true, false, eqb, refl, ap, sym, ◌∙◌, subst, Option, Some, None}
use Rattle.std.proofs.lemmas.Bool.{eqb-true, eqb-false}
use Rattle.vk_model.specs.declared.resource.ImageInfo.{ImageInfo}
use Rattle.vk_resources.specs.declared.resources.Placed.{Placed}
use Rattle.vk_resources.specs.Held.{Held, IsApart, IsCaching, IsShaped, AreShaped, IsConsistent, placed_in, shape_in, shape_of}
use Rattle.vk_resources.specs.Inner.Steps.{ShapeReady, PutReady}
use Rattle.vk_resources.proofs.Placing.{apart_put}
use Rattle.vk_resources.proofs.CachedBytes.{caching_put}

-- it is put there
module _ (s : Held) (id : ℕ) (p : Placed) (shape : Option ImageInfo) (consistent : IsConsistent s) (ready : PutReady s id p shape) (resources : List (ℕ × Placed)) (here : placed_in resources id ≡ Some p) (others : (q : ℕ) → (q ≡ id → ⊥) → placed_in resources q ≡ placed_in s.resources q) where
  pub put_places : IsApart s.memory s.backed resources × IsCaching s.memory resources s.cache
  put_places = (
    apart_put s.memory s.backed s.resources resources id p here others ready.inside ready.apart consistent.0,
    caching_put s.memory s.resources resources s.cache id p ready.absent here others ready.aligned consistent.1,
  )

  -- without its shape yet, or as a buffer
  pub put_bare : AreShaped resources s.shapes
  put_bare = record { each = λ i m q is at. go i m q is at (eqb i id) refl }
    where
      go : (i : ℕ) (m : ImageInfo) (q : Placed) → shape_of s i ≡ Some m → placed_in resources i ≡ Some q → (t : Bool) → eqb i id ≡ t → IsShaped m q
      go i m q is at true e = let both : Some m ≡ None = sym is ∙ ap (λ (j : ℕ). shape_of s j) (eqb-true i id e) ∙ ready.unshaped in absurd cc
      go i m q is at false e = consistent.2.each i m q is (sym (others i (eqb-false i id e)) ∙ at)

  pub put_shaped : (m : ImageInfo) → shape ≡ Some m → (shapes : List (ℕ × ImageInfo)) → shape_in shapes id ≡ Some m → ((q : ℕ) → (q ≡ id → ⊥) → shape_in shapes q ≡ shape_in s.shapes q) → AreShaped resources shapes
  put_shaped m is shapes now kept = record { each = λ i n q at_shape at. go i n q at_shape at (eqb i id) refl }
    where
      go : (i : ℕ) (n : ImageInfo) (q : Placed) → shape_in shapes i ≡ Some n → placed_in resources i ≡ Some q → (t : Bool) → eqb i id ≡ t → IsShaped n q
      go i n q at_shape at false e = let ne = eqb-false i id e in consistent.2.each i n q (sym (kept i ne) ∙ at_shape) (sym (others i ne) ∙ at)
      go i n q at_shape at true e =
          let both : Some n ≡ Some m = sym at_shape ∙ ap (λ (j : ℕ). shape_in shapes j) (eqb-true i id e) ∙ now in
          let one : n ≡ m = cc in
          let places : Some q ≡ Some p = sym at ∙ ap (λ (j : ℕ). placed_in resources j) (eqb-true i id e) ∙ here in
          let same : q ≡ p = cc in
          subst (λ (k : ImageInfo). IsShaped k q) (sym one) (subst (λ (z : Placed). IsShaped m z) (sym same) (subst (λ (o : Option ImageInfo). ShapeReady o p) is ready.shaped))
