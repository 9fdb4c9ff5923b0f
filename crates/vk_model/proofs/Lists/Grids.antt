-- The items of a grid: where each is, and that those of different places are apart. Other crates cite it.
use Rattle.std.proofs.Common.{◌≡◌, ℕ, ◌+◌, ◌<◌, List, map, refl, subst, arith, inl, inr, ◌⊎◌}
use Rattle.std.specs.Prelude.{Contains}
use Rattle.std.specs.List.{flat_map}
use Rattle.vk_model.specs.Basics.{below, grid}
use Rattle.vk_model.proofs.Lists.Members.{numbers_have, map_has, flat_has}
use Rattle.vk_model.proofs.Lists.Pairs.{Each, Pairs, each_map, each_flat, each_range, each_of, pairs_range, pairs_of, pairs_flat, each_has}

-- the one place comes before the other: by the first number in which they differ
abbrev pub Less : (z y x k z' y' x' k' : ℕ) → Type 0
Less z y x k z' y' x' k' = (z < z') ⊎ ((z ≡ z') × ((y < y') ⊎ ((y ≡ y') × ((x < x') ⊎ ((x ≡ x') × (k < k'))))))

-- an item of a grid, by its place
pub record At {A : Type 0} (f : ℕ → ℕ → ℕ → ℕ → A) (a b c d : ℕ) (item : A) : Type 0 where
  pub z : ℕ
  pub y : ℕ
  pub x : ℕ
  pub k : ℕ
  pub low_z : z < a
  pub low_y : y < b
  pub low_x : x < c
  pub low_k : k < d
  pub is : item ≡ f z y x k

module _ {A : Type 0} (R : A → A → Type 0) (f : ℕ → ℕ → ℕ → ℕ → A) (a b c d : ℕ)
    (apart : (z y x k z' y' x' k' : ℕ) → z < a → z' < a → y < b → y' < b → x < c → x' < c → k < d → k' < d → Less z y x k z' y' x' k' → R (f z y x k) (f z' y' x' k')) where
  abbrev InRow : ℕ → ℕ → ℕ → A → Type 0
  InRow z y x item = (k : ℕ) × (k < d) × (item ≡ f z y x k)

  abbrev InPlane : ℕ → ℕ → A → Type 0
  InPlane z y item = (x : ℕ) × (k : ℕ) × (x < c) × (k < d) × (item ≡ f z y x k)

  abbrev InLayer : ℕ → A → Type 0
  InLayer z item = (y : ℕ) × (x : ℕ) × (k : ℕ) × (y < b) × (x < c) × (k < d) × (item ≡ f z y x k)

  abbrev row : ℕ → ℕ → ℕ → List A
  row z y x = map (λ k. f z y x k) (below d)

  abbrev plane : ℕ → ℕ → List A
  plane z y = flat_map (λ x. row z y x) (below c)

  abbrev layer : ℕ → List A
  layer z = flat_map (λ y. plane z y) (below b)

  related : (z y x k z' y' x' k' : ℕ) (i j : A) → z < a → z' < a → y < b → y' < b → x < c → x' < c → k < d → k' < d → i ≡ f z y x k → j ≡ f z' y' x' k' → Less z y x k z' y' x' k' → R i j
  related z y x k z' y' x' k' i j lz lz' ly ly' lx lx' lk lk' is is' less = rw (is, is') (apart z y x k z' y' x' k' lz lz' ly ly' lx lx' lk lk' less)

  in_row : (z y x : ℕ) → Each (InRow z y x) (row z y x)
  in_row z y x = each_of (InRow z y x) (λ k. f z y x k) (below d) (each_range (λ k. InRow z y x (f z y x k)) 0 d (λ k low high. (k, omega arith, refl)))

  row_apart : (z y x : ℕ) → z < a → y < b → x < c → Pairs R (row z y x)
  row_apart z y x lz ly lx =
      pairs_of R (λ k. f z y x k) (below d)
      (pairs_range (λ k l. R (f z y x k) (f z y x l)) 0 d (λ k l lt high. apart z y x k z y x l lz lz ly ly lx lx (omega arith) (omega arith) (inr (refl, inr (refl, inr (refl, lt))))))

  in_plane : (z y : ℕ) → Each (InPlane z y) (plane z y)
  in_plane z y =
      each_flat (InPlane z y) (λ x. row z y x) (below c)
      (each_range (λ x. Each (InPlane z y) (row z y x)) 0 c (λ x low high. each_map (InRow z y x) (InPlane z y) (row z y x) (λ i at. (x, at.0, omega arith, at.1, at.2)) (in_row z y x)))

  plane_apart : (z y : ℕ) → z < a → y < b → Pairs R (plane z y)
  plane_apart z y lz ly =
      pairs_flat R (λ x. row z y x) (λ x. InRow z y x) (below c)
      (each_range (λ x. Pairs R (row z y x)) 0 c (λ x low high. row_apart z y x lz ly (omega arith)))
      (each_range (λ x. Each (InRow z y x) (row z y x)) 0 c (λ x low high. in_row z y x))
      (pairs_range (λ x x'. (i j : A) → InRow z y x i → InRow z y x' j → R i j) 0 c
      (λ x x' lt high. λ i j at at'. related z y x at.0 z y x' at'.0 i j lz lz ly ly (omega arith) (omega arith) at.1 at'.1 at.2 at'.2 (inr (refl, inr (refl, inl lt)))))

  in_layer : (z : ℕ) → Each (InLayer z) (layer z)
  in_layer z =
      each_flat (InLayer z) (λ y. plane z y) (below b)
      (each_range (λ y. Each (InLayer z) (plane z y)) 0 b (λ y low high. each_map (InPlane z y) (InLayer z) (plane z y) (λ i at. (y, at.0, at.1, omega arith, at.2, at.3, at.4)) (in_plane z y)))

  layer_apart : (z : ℕ) → z < a → Pairs R (layer z)
  layer_apart z lz =
      pairs_flat R (λ y. plane z y) (λ y. InPlane z y) (below b)
      (each_range (λ y. Pairs R (plane z y)) 0 b (λ y low high. plane_apart z y lz (omega arith)))
      (each_range (λ y. Each (InPlane z y) (plane z y)) 0 b (λ y low high. in_plane z y))
      (pairs_range (λ y y'. (i j : A) → InPlane z y i → InPlane z y' j → R i j) 0 b
      (λ y y' lt high. λ i j at at'. related z y at.0 at.1 z y' at'.0 at'.1 i j lz lz (omega arith) (omega arith) at.2 at'.2 at.3 at'.3 at.4 at'.4 (inr (refl, inl lt))))

  pub grid_apart : Pairs R (grid a b c d f)
  grid_apart =
      pairs_flat R (λ z. layer z) (λ z. InLayer z) (below a)
      (each_range (λ z. Pairs R (layer z)) 0 a (λ z low high. layer_apart z (omega arith)))
      (each_range (λ z. Each (InLayer z) (layer z)) 0 a (λ z low high. in_layer z))
      (pairs_range (λ z z'. (i j : A) → InLayer z i → InLayer z' j → R i j) 0 a
      (λ z z' lt high. λ i j at at'. related z at.0 at.1 at.2 z' at'.0 at'.1 at'.2 i j (omega arith) (omega arith) at.3 at'.3 at.4 at'.4 at.5 at'.5 at.6 at'.6 (inl lt)))

-- each item of a grid is at its place
pub in_grid : {A : Type 0} (f : ℕ → ℕ → ℕ → ℕ → A) (a b c d : ℕ) → Each (At f a b c d) (grid a b c d f)
in_grid f a b c d =
    each_flat (At f a b c d) _ (below a) (each_range _ 0 a (λ z low_z high_z.
    each_flat (At f a b c d) _ (below b) (each_range _ 0 b (λ y low_y high_y.
    each_flat (At f a b c d) _ (below c) (each_range _ 0 c (λ x low_x high_x.
    each_of (At f a b c d) (λ k. f z y x k) (below d) (each_range _ 0 d (λ k low_k high_k. record { z = z; y = y; x = x; k = k; low_z = omega arith; low_y = omega arith; low_x = omega arith; low_k = omega arith; is = refl }))))))))

pub grid_from : {A : Type 0} (f : ℕ → ℕ → ℕ → ℕ → A) (a b c d : ℕ) (item : A) → Contains (grid a b c d f) item → At f a b c d item
grid_from f a b c d item h = each_has (At f a b c d) (grid a b c d f) item (in_grid f a b c d) h

-- ---- what a grid has

pub below_has : (n k : ℕ) → k < n → Contains (below n) k
below_has n k lt = let at : 0 + k ≡ k = omega arith in subst (λ (j : ℕ). Contains (below n) j) at (numbers_have 0 n k lt)

-- each cell of a grid is among its items
pub grid_has : {A : Type 0} (f : ℕ → ℕ → ℕ → ℕ → A) (a b c d z y x k : ℕ) → z < a → y < b → x < c → k < d → Contains (grid a b c d f) (f z y x k)
grid_has f a b c d z y x k lz ly lx lk =
    flat_has (λ i. flat_map (λ j. flat_map (λ l. map (λ o. f i j l o) (below d)) (below c)) (below b)) (below a) z (f z y x k) (below_has a z lz)
    (flat_has (λ j. flat_map (λ l. map (λ o. f z j l o) (below d)) (below c)) (below b) y (f z y x k) (below_has b y ly)
    (flat_has (λ l. map (λ o. f z y l o) (below d)) (below c) x (f z y x k) (below_has c x lx)
    (map_has (λ o. f z y x o) (below d) k (below_has d k lk))))
