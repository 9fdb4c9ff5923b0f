-- Which bytes areas have: ranges, boxes of texels, rows of regions.
use Rattle.std.proofs.Common.{◌≡◌, ℕ, ◌+◌, ◌-◌, ◌*◌, ◌/◌, ◌%◌, ◌^◌, ◌<◌, ◌≤◌, zero, suc, max, min, List, [], ◌∷◌, ◌++◌, map, length, take, get_or, true, false, ◌&&◌, ◌==◌, refl, sym, ap, ◌∙◌, subst, arith}
use Rattle.std.specs.Prelude.{Contains, nat_le, nat_lt}
use Rattle.std.specs.List.{flat_map}
use Rattle.std.proofs.lemmas.Bool.{eq-eqb, eqb-true, leb-true, ltb-true, le-leb, lt-ltb, and_parts, and_from, false_from_ne_true}
use Rattle.std.proofs.lemmas.List.{take_more, append-nil}
use Rattle.std.proofs.lemmas.Grind.{flat_map-append}
use Rattle.std.proofs.Math.Nat.{div-lt_iff_lt-mul}
use Rattle.std.proofs.lemmas.Nat.{mul-add-lt}
use Rattle.vk_model.specs.declared.command.BufferImageCopy.{BufferImageCopy}
use Rattle.vk_model.specs.declared.command.SubresourceRange.{SubresourceRange}
use Rattle.vk_model.specs.declared.resource.ImageInfo.{ImageInfo}
use Rattle.vk_model.specs.Basics.{below}
use Rattle.vk_model.specs.Trace.Image.{texel, level_width, level_height}
use Rattle.vk_model.specs.World.Bytes.{Byte, in_buffer, in_image}
use Rattle.vk_model.specs.World.ByteWrites.{buffer_texel, row_texels, layer_rows, level_bytes}
use Rattle.vk_model.specs.Sync.Access.{bytes_of}
use Rattle.vk_model.proofs.Lists.Truths.{no, bool_same}
use Rattle.vk_model.proofs.Lists.Members.{map_has, mapped_from, flat_from, flat_has, below_from}
use Rattle.vk_model.proofs.Lists.Grids.{grid_from, grid_has, below_has}
use Rattle.vk_model.proofs.Lists.Rows.{flat_more}
use Rattle.vk_hazards.specs.declared.areas.Area.{Area}
use Rattle.vk_hazards.specs.declared.areas.Area.TheVariants as area
use Rattle.vk_hazards.specs.declared.areas.Texels.{Texels}
use Rattle.vk_hazards.specs.Areas.{has, is_between, AreAreas, IsNumbered}
use Rattle.vk_hazards.specs.Inner.Parts.{row_bytes, texel_bytes, level_part}
use Rattle.vk_hazards.proofs.Members.{one_area, no_area, areas_same, areas_append}

-- ---- numbers between

pub between : (low high k : ℕ) → low ≤ k → k < high → is_between low high k ≡ true
between low high k le lt = and_from (nat_le low k) (nat_lt k high) (le-leb low k le) (lt-ltb k high lt)

pub between_parts : (low high k : ℕ) → is_between low high k ≡ true → (low ≤ k) × (k < high)
between_parts low high k h = let p = and_parts (nat_le low k) (nat_lt k high) h in (leb-true low k p.0, ltb-true k high p.1)

-- ---- ranges of buffers

pub bytes_has : (b o n j : ℕ) → j < n → Contains (bytes_of b o n) (in_buffer b (o + j))
bytes_has b o n j lt = map_has (λ k. in_buffer b (o + k)) (below n) j (below_has n j lt)

pub bytes_from : (b o n : ℕ) (c : Byte) → Contains (bytes_of b o n) c → (j : ℕ) × (j < n) × (c ≡ in_buffer b (o + j))
bytes_from b o n c h = let m = mapped_from (λ k. in_buffer b (o + k)) (below n) c h in (m.0, below_from n m.0 m.1, sym m.2)

pub area_of_bytes : (b o n high : ℕ) → high ≤ o + n → ((k : ℕ) → k < 2 ^ 64 - 1 → k < o + n → k < high) → AreAreas (area.Bytes b o high ∷ []) (bytes_of b o n)
area_of_bytes b o n high inner outer = one_area (area.Bytes b o high) (bytes_of b o n) inside whole
  where
    inside : (c : Byte) → has (area.Bytes b o high) c ≡ true → Contains (bytes_of b o n) c
    inside (in_image i a l x y p) h = no h
    inside (in_buffer d k) h =
        let p = and_parts (b == d) (is_between o high k) h in
        let q = between_parts o high k p.1 in
        let le : o ≤ k = q.0 in
        let lt : k < high = q.1 in
        let e : o + (k - o) ≡ k = omega arith in
        subst (λ (m : ℕ). Contains (bytes_of b o n) (in_buffer m k)) (eqb-true b d p.0)
        (subst (λ (m : ℕ). Contains (bytes_of b o n) (in_buffer b m)) e (bytes_has b o n (k - o) (omega arith)))

    whole : (c : Byte) → IsNumbered c → Contains (bytes_of b o n) c → has (area.Bytes b o high) c ≡ true
    whole c numbered h =
        let m = bytes_from b o n c h in
        let j : ℕ = m.0 in
        let lt : j < n = m.1 in
        let small : o + j < 2 ^ 64 - 1 = subst IsNumbered m.2 numbered in
        let below_high : o + j < high = outer (o + j) small (omega arith) in
        subst (λ (d : Byte). has (area.Bytes b o high) d ≡ true) (sym m.2) (and_from (b == b) (is_between o high (o + j)) (eq-eqb b b refl) (between o high (o + j) (omega arith) below_high))

-- ---- boxes of texels

-- a byte of a texel is in a box
pub record IsTexel (t : Texels) (i a l x y p : ℕ) : Type 0 where
  pub image : t.image ≡ i
  pub level : t.level ≡ a
  pub layer_low : t.first_layer ≤ l
  pub layer_high : l < t.end_layer
  pub left : t.left ≤ x
  pub right : x < t.right
  pub top : t.top ≤ y
  pub bottom : y < t.bottom
  pub part : p < t.texel

pub texel_parts : (t : Texels) (i a l x y p : ℕ) → has (area.Texels t) (in_image i a l x y p) ≡ true → IsTexel t i a l x y p
texel_parts t i a l x y p h =
    let h5 = and_parts (t.image == i && t.level == a && is_between t.first_layer t.end_layer l && is_between t.left t.right x && is_between t.top t.bottom y) (nat_lt p t.texel) h in
    let h4 = and_parts (t.image == i && t.level == a && is_between t.first_layer t.end_layer l && is_between t.left t.right x) (is_between t.top t.bottom y) h5.0 in
    let h3 = and_parts (t.image == i && t.level == a && is_between t.first_layer t.end_layer l) (is_between t.left t.right x) h4.0 in
    let h2 = and_parts (t.image == i && t.level == a) (is_between t.first_layer t.end_layer l) h3.0 in
    let h1 = and_parts (t.image == i) (t.level == a) h2.0 in
    let layers = between_parts t.first_layer t.end_layer l h2.1 in
    let columns = between_parts t.left t.right x h3.1 in
    let rows = between_parts t.top t.bottom y h4.1 in record {
      image = eqb-true t.image i h1.0;
      level = eqb-true t.level a h1.1;
      layer_low = layers.0;
      layer_high = layers.1;
      left = columns.0;
      right = columns.1;
      top = rows.0;
      bottom = rows.1;
      part = ltb-true p t.texel h5.1;
    }

pub texel_from : (t : Texels) (i a l x y p : ℕ) → IsTexel t i a l x y p → has (area.Texels t) (in_image i a l x y p) ≡ true
texel_from t i a l x y p is =
    and_from _ _ (and_from _ _ (and_from _ _ (and_from _ _ (and_from _ _ (eq-eqb t.image i is.image) (eq-eqb t.level a is.level))
    (between t.first_layer t.end_layer l is.layer_low is.layer_high)) (between t.left t.right x is.left is.right)) (between t.top t.bottom y is.top is.bottom)) (lt-ltb p t.texel is.part)

-- an end that stands for so many from a number on
pub record IsEnd (low count end : ℕ) : Type 0 where
  pub inner : end ≤ low + count
  pub outer : (k : ℕ) → k < 2 ^ 32 - 1 → k < low + count → k < end

module _ (i t level l x0 y0 layers height width : ℕ) (box : Texels)
    (is_image : box.image ≡ i) (is_level : box.level ≡ level) (is_texel : box.texel ≡ t)
    (is_layer : box.first_layer ≡ l) (is_left : box.left ≡ x0) (is_top : box.top ≡ y0)
    (to_layer : IsEnd l layers box.end_layer) (to_right : IsEnd x0 width box.right) (to_bottom : IsEnd y0 height box.bottom) where
  in_box : (j a z x y p : ℕ) → has (area.Texels box) (in_image j a z x y p) ≡ true → Contains (texel_bytes i t level l x0 y0 layers height width) (in_image j a z x y p)
  in_box j a z x y p h =
      let is = texel_parts box j a z x y p h in
      let ez : l + (z - l) ≡ z = omega (arith, is.layer_low, is_layer) in
      let ex : x0 + (x - x0) ≡ x = omega (arith, is.left, is_left) in
      let ey : y0 + (y - y0) ≡ y = omega (arith, is.top, is_top) in
      let lz : z - l < layers = omega (arith, is.layer_low, is.layer_high, is_layer, to_layer.inner) in
      let lx : x - x0 < width = omega (arith, is.left, is.right, is_left, to_right.inner) in
      let ly : y - y0 < height = omega (arith, is.top, is.bottom, is_top, to_bottom.inner) in
      let ej : i ≡ j = sym is_image ∙ is.image in
      let ea : level ≡ a = sym is_level ∙ is.level in
      let same : in_image i level (l + (z - l)) (x0 + (x - x0)) (y0 + (y - y0)) p ≡ in_image j a z x y p = rw (ez, ex, ey, ej, ea) refl in
      subst (λ (c : Byte). Contains (texel_bytes i t level l x0 y0 layers height width) c) same
      (grid_has (λ z y x k. in_image i level (l + z) (x0 + x) (y0 + y) k) layers height width t (z - l) (y - y0) (x - x0) p lz ly lx (omega (arith, is.part, is_texel)))

  of_box : (c : Byte) → IsNumbered c → Contains (texel_bytes i t level l x0 y0 layers height width) c → has (area.Texels box) c ≡ true
  of_box c numbered h =
      let m = grid_from (λ z y x k. in_image i level (l + z) (x0 + x) (y0 + y) k) layers height width t c h in
      let n : IsNumbered (in_image i level (l + m.z) (x0 + m.x) (y0 + m.y) m.k) = subst IsNumbered m.is numbered in
      subst (λ (d : Byte). has (area.Texels box) d ≡ true) (sym m.is)
      (texel_from box i level (l + m.z) (x0 + m.x) (y0 + m.y) m.k (record {
        image = is_image;
        level = is_level;
        layer_low = omega (arith, is_layer);
        layer_high = to_layer.outer (l + m.z) n.1 (omega (arith, m.low_z));
        left = omega (arith, is_left);
        right = to_right.outer (x0 + m.x) n.2 (omega (arith, m.low_x));
        top = omega (arith, is_top);
        bottom = to_bottom.outer (y0 + m.y) n.3 (omega (arith, m.low_y));
        part = omega (arith, is_texel, m.low_k);
      }))

  inside : (c : Byte) → has (area.Texels box) c ≡ true → Contains (texel_bytes i t level l x0 y0 layers height width) c
  inside (in_buffer b k) h = no h
  inside (in_image j a z x y p) h = in_box j a z x y p h

  pub area_of_box : AreAreas (area.Texels box ∷ []) (texel_bytes i t level l x0 y0 layers height width)
  area_of_box = one_area (area.Texels box) (texel_bytes i t level l x0 y0 layers height width) inside of_box

-- what two boxes have in common
pub record IsMeet (t u r : Texels) : Type 0 where
  pub image : r.image ≡ t.image
  pub level : r.level ≡ t.level
  pub other_image : u.image ≡ t.image
  pub other_level : u.level ≡ t.level
  pub first_layer : r.first_layer ≡ max t.first_layer u.first_layer
  pub end_layer : r.end_layer ≡ min t.end_layer u.end_layer
  pub left : r.left ≡ max t.left u.left
  pub right : r.right ≡ min t.right u.right
  pub top : r.top ≡ max t.top u.top
  pub bottom : r.bottom ≡ min t.bottom u.bottom
  pub texel : r.texel ≡ min t.texel u.texel

pub boxes_meet : (t u r : Texels) → IsMeet t u r → (b : Byte) → has (area.Texels r) b ≡ (has (area.Texels t) b && has (area.Texels u) b)
boxes_meet t u r m (in_buffer c k) = refl
boxes_meet t u r m (in_image i a l x y p) = bool_same (has (area.Texels r) (in_image i a l x y p)) (has (area.Texels t) (in_image i a l x y p) && has (area.Texels u) (in_image i a l x y p)) to from
  where
    to : has (area.Texels r) (in_image i a l x y p) ≡ true → (has (area.Texels t) (in_image i a l x y p) && has (area.Texels u) (in_image i a l x y p)) ≡ true
    to h =
        let is = texel_parts r i a l x y p h in
        and_from _ _ (texel_from t i a l x y p (record {
          image = sym m.image ∙ is.image;
          level = sym m.level ∙ is.level;
          layer_low = omega (arith, is.layer_low, m.first_layer);
          layer_high = omega (arith, is.layer_high, m.end_layer);
          left = omega (arith, is.left, m.left);
          right = omega (arith, is.right, m.right);
          top = omega (arith, is.top, m.top);
          bottom = omega (arith, is.bottom, m.bottom);
          part = omega (arith, is.part, m.texel);
        })) (texel_from u i a l x y p (record {
          image = m.other_image ∙ sym m.image ∙ is.image;
          level = m.other_level ∙ sym m.level ∙ is.level;
          layer_low = omega (arith, is.layer_low, m.first_layer);
          layer_high = omega (arith, is.layer_high, m.end_layer);
          left = omega (arith, is.left, m.left);
          right = omega (arith, is.right, m.right);
          top = omega (arith, is.top, m.top);
          bottom = omega (arith, is.bottom, m.bottom);
          part = omega (arith, is.part, m.texel);
        }))

    from : (has (area.Texels t) (in_image i a l x y p) && has (area.Texels u) (in_image i a l x y p)) ≡ true → has (area.Texels r) (in_image i a l x y p) ≡ true
    from h =
        let both = and_parts (has (area.Texels t) (in_image i a l x y p)) (has (area.Texels u) (in_image i a l x y p)) h in
        let is = texel_parts t i a l x y p both.0 in
        let of = texel_parts u i a l x y p both.1 in
        texel_from r i a l x y p (record {
          image = m.image ∙ is.image;
          level = m.level ∙ is.level;
          layer_low = omega (arith, is.layer_low, of.layer_low, m.first_layer);
          layer_high = omega (arith, is.layer_high, of.layer_high, m.end_layer);
          left = omega (arith, is.left, of.left, m.left);
          right = omega (arith, is.right, of.right, m.right);
          top = omega (arith, is.top, of.top, m.top);
          bottom = omega (arith, is.bottom, of.bottom, m.bottom);
          part = omega (arith, is.part, of.part, m.texel);
        })

-- boxes of different levels or images have no byte in common
pub boxes_apart : (t u : Texels) → (t.image ≡ u.image → t.level ≡ u.level → ⊥) → (b : Byte) → (has (area.Texels t) b && has (area.Texels u) b) ≡ false
boxes_apart t u differ (in_buffer c k) = refl
boxes_apart t u differ (in_image i a l x y p) = false_from_ne_true (has (area.Texels t) (in_image i a l x y p) && has (area.Texels u) (in_image i a l x y p)) (λ h.
    let both = and_parts (has (area.Texels t) (in_image i a l x y p)) (has (area.Texels u) (in_image i a l x y p)) h in
    let is = texel_parts t i a l x y p both.0 in
    let of = texel_parts u i a l x y p both.1 in
    differ (is.image ∙ sym of.image) (is.level ∙ sym of.level))

-- what two ranges of a buffer have in common
pub ranges_meet : (b low high l h : ℕ) (c : Byte) → has (area.Bytes b (max low l) (min high h)) c ≡ (has (area.Bytes b low high) c && has (area.Bytes b l h) c)
ranges_meet b low high l h (in_image i a z x y p) = refl
ranges_meet b low high l h (in_buffer d k) = bool_same (has (area.Bytes b (max low l) (min high h)) (in_buffer d k)) (has (area.Bytes b low high) (in_buffer d k) && has (area.Bytes b l h) (in_buffer d k)) to from
  where
    to : has (area.Bytes b (max low l) (min high h)) (in_buffer d k) ≡ true → (has (area.Bytes b low high) (in_buffer d k) && has (area.Bytes b l h) (in_buffer d k)) ≡ true
    to e =
        let p = and_parts (b == d) (is_between (max low l) (min high h) k) e in
        let q = between_parts (max low l) (min high h) k p.1 in
        let q0 = q.0 in
        let q1 = q.1 in
        and_from _ _ (and_from _ _ p.0 (between low high k (omega (arith, q0)) (omega (arith, q1)))) (and_from _ _ p.0 (between l h k (omega (arith, q0)) (omega (arith, q1))))

    from : (has (area.Bytes b low high) (in_buffer d k) && has (area.Bytes b l h) (in_buffer d k)) ≡ true → has (area.Bytes b (max low l) (min high h)) (in_buffer d k) ≡ true
    from e =
        let both = and_parts (has (area.Bytes b low high) (in_buffer d k)) (has (area.Bytes b l h) (in_buffer d k)) e in
        let p = and_parts (b == d) (is_between low high k) both.0 in
        let o = and_parts (b == d) (is_between l h k) both.1 in
        let q = between_parts low high k p.1 in
        let r = between_parts l h k o.1 in
        and_from _ _ p.0 (between (max low l) (min high h) k (omega (arith, q.0, r.0)) (omega (arith, q.1, r.1)))

-- ranges of different buffers have no byte in common
pub ranges_apart : (b low high d l h : ℕ) → (b ≡ d → ⊥) → (c : Byte) → (has (area.Bytes b low high) c && has (area.Bytes d l h) c) ≡ false
ranges_apart b low high d l h differ (in_image i a z x y p) = refl
ranges_apart b low high d l h differ (in_buffer e k) = false_from_ne_true (has (area.Bytes b low high) (in_buffer e k) && has (area.Bytes d l h) (in_buffer e k)) (λ f.
    let both = and_parts (has (area.Bytes b low high) (in_buffer e k)) (has (area.Bytes d l h) (in_buffer e k)) f in
    differ (eqb-true b e (and_parts (b == e) (is_between low high k) both.0).0 ∙ sym (eqb-true d e (and_parts (d == e) (is_between l h k) both.1).0)))

-- ---- levels

-- a level's bytes are its texels
pub level_same : (i k : ℕ) (m : ImageInfo) (r : SubresourceRange) (areas : List Area)
    → AreAreas areas (texel_bytes i (texel m.format) (r.first_level + k) r.first_layer 0 0 r.layers (level_height m (r.first_level + k)) (level_width m (r.first_level + k))) → AreAreas areas (level_part i m r k)
level_same i k m r areas are = areas_same areas (texel_bytes i (texel m.format) (r.first_level + k) r.first_layer 0 0 r.layers (level_height m (r.first_level + k)) (level_width m (r.first_level + k))) (level_part i m r k) to from are
  where
    to : (b : Byte) → Contains (texel_bytes i (texel m.format) (r.first_level + k) r.first_layer 0 0 r.layers (level_height m (r.first_level + k)) (level_width m (r.first_level + k))) b → Contains (level_part i m r k) b
    to b h =
        let g = grid_from (λ z y x p. in_image i (r.first_level + k) (r.first_layer + z) (0 + x) (0 + y) p) r.layers (level_height m (r.first_level + k)) (level_width m (r.first_level + k)) (texel m.format) b h in
        let ex : g.x ≡ 0 + g.x = omega arith in
        let ey : g.y ≡ 0 + g.y = omega arith in
        let same : in_image i (r.first_level + k) (r.first_layer + g.z) g.x g.y g.k ≡ b = ap (λ (n : ℕ). in_image i (r.first_level + k) (r.first_layer + g.z) n g.y g.k) ex ∙ ap (λ (n : ℕ). in_image i (r.first_level + k) (r.first_layer + g.z) (0 + g.x) n g.k) ey ∙ sym g.is in
        subst (λ (c : Byte). Contains (level_part i m r k) c) same
        (map_has (λ p. p.0) (level_bytes i m r (r.first_level + k)) (in_image i (r.first_level + k) (r.first_layer + g.z) g.x g.y g.k, g.k)
        (grid_has (λ z y x p. (in_image i (r.first_level + k) (r.first_layer + z) x y p, p)) r.layers (level_height m (r.first_level + k)) (level_width m (r.first_level + k)) (texel m.format) g.z g.y g.x g.k g.low_z g.low_y g.low_x g.low_k))

    from : (b : Byte) → Contains (level_part i m r k) b → Contains (texel_bytes i (texel m.format) (r.first_level + k) r.first_layer 0 0 r.layers (level_height m (r.first_level + k)) (level_width m (r.first_level + k))) b
    from b h =
        let p = mapped_from (λ p. p.0) (level_bytes i m r (r.first_level + k)) b h in
        let g = grid_from (λ z y x p. (in_image i (r.first_level + k) (r.first_layer + z) x y p, p)) r.layers (level_height m (r.first_level + k)) (level_width m (r.first_level + k)) (texel m.format) p.0 p.1 in
        let ex : 0 + g.x ≡ g.x = omega arith in
        let ey : 0 + g.y ≡ g.y = omega arith in
        let same : in_image i (r.first_level + k) (r.first_layer + g.z) (0 + g.x) (0 + g.y) g.k ≡ b = ap (λ (n : ℕ). in_image i (r.first_level + k) (r.first_layer + g.z) n (0 + g.y) g.k) ex ∙ ap (λ (n : ℕ). in_image i (r.first_level + k) (r.first_layer + g.z) g.x n g.k) ey ∙ sym (ap (λ (q : Byte × ℕ). q.0) g.is) ∙ p.2 in
        subst (λ (c : Byte). Contains (texel_bytes i (texel m.format) (r.first_level + k) r.first_layer 0 0 r.layers (level_height m (r.first_level + k)) (level_width m (r.first_level + k))) c) same
        (grid_has (λ z y x p. in_image i (r.first_level + k) (r.first_layer + z) (0 + x) (0 + y) p) r.layers (level_height m (r.first_level + k)) (level_width m (r.first_level + k)) (texel m.format) g.z g.y g.x g.k g.low_z g.low_y g.low_x g.low_k)

-- a level without a number of 32 bits has no byte with numbers
pub no_level : (i k : ℕ) (m : ImageInfo) (r : SubresourceRange) → 2 ^ 32 ≤ r.first_level + k → AreAreas [] (level_part i m r k)
no_level i k m r over = no_area (level_part i m r k) none
  where
    none : (b : Byte) → IsNumbered b → Contains (level_part i m r k) b → false ≡ true
    none b numbered h =
        let p = mapped_from (λ p. p.0) (level_bytes i m r (r.first_level + k)) b h in
        let g = grid_from (λ z y x p. (in_image i (r.first_level + k) (r.first_layer + z) x y p, p)) r.layers (level_height m (r.first_level + k)) (level_width m (r.first_level + k)) (texel m.format) p.0 p.1 in
        let n : IsNumbered (in_image i (r.first_level + k) (r.first_layer + g.z) g.x g.y g.k) = subst IsNumbered (sym (sym (ap (λ (q : Byte × ℕ). q.0) g.is) ∙ p.2)) numbered in
        absurd (omega (arith, n.0))

-- ---- rows of regions

-- where byte k of texel x of a row is
in_row : (g : BufferImageCopy) (t z y x k : ℕ) → buffer_texel g t z y x k ≡ buffer_texel g t z y 0 0 + (x * t + k)
in_row g t z y x k = go ((z * layer_rows g + y) * row_texels g)
  where
    go : (n : ℕ) → g.buffer_offset + (n + x) * t + k ≡ (g.buffer_offset + (n + 0) * t + 0) + (x * t + k)
    go n = omega arith

pub row_to : (b t : ℕ) (g : BufferImageCopy) (z y : ℕ) (c : Byte) → Contains (row_bytes b t g z y) c → Contains (bytes_of b (buffer_texel g t z y 0 0) (g.width * t)) c
row_to b t g z y c h =
    let r = flat_from (λ x. map (λ k. in_buffer b (buffer_texel g t z y x k)) (below t)) (below g.width) c h in
    let m = mapped_from (λ k. in_buffer b (buffer_texel g t z y r.0 k)) (below t) c r.2 in
    let lt : r.0 * t + m.0 < t * g.width = mul-add-lt r.0 t m.0 g.width (below_from g.width r.0 r.1) (below_from t m.0 m.1) in
    subst (λ (d : Byte). Contains (bytes_of b (buffer_texel g t z y 0 0) (g.width * t)) d) (ap (in_buffer b) (sym (in_row g t z y r.0 m.0)) ∙ m.2)
    (bytes_has b (buffer_texel g t z y 0 0) (g.width * t) (r.0 * t + m.0) (omega arith))

row_at : (b t : ℕ) (g : BufferImageCopy) (z y x k : ℕ) → x < g.width → k < t → Contains (row_bytes b t g z y) (in_buffer b (buffer_texel g t z y x k))
row_at b t g z y x k lx lk =
    flat_has (λ x. map (λ k. in_buffer b (buffer_texel g t z y x k)) (below t)) (below g.width) x (in_buffer b (buffer_texel g t z y x k)) (below_has g.width x lx)
    (map_has (λ k. in_buffer b (buffer_texel g t z y x k)) (below t) k (below_has t k lk))

pub row_from : (b t : ℕ) (g : BufferImageCopy) (z y : ℕ) (c : Byte) → Contains (bytes_of b (buffer_texel g t z y 0 0) (g.width * t)) c → Contains (row_bytes b t g z y) c
row_from b t g z y c h =
    let m = bytes_from b (buffer_texel g t z y 0 0) (g.width * t) c h in
    let parts = divided m.0 g.width t m.1 in
    subst (λ (d : Byte). Contains (row_bytes b t g z y) d)
    (ap (in_buffer b) (in_row g t z y (m.0 / t) (m.0 % t) ∙ ap (λ (n : ℕ). buffer_texel g t z y 0 0 + n) parts.2) ∙ sym m.2)
    (row_at b t g z y (m.0 / t) (m.0 % t) parts.0 parts.1)
  where
    divided : (j w t : ℕ) → j < w * t → (j / t < w) × (j % t < t) × (j / t * t + j % t ≡ j)
    divided j w zero lt = absurd (omega arith)
    divided j w (suc t) lt = ((div-lt_iff_lt-mul {k = suc t} {x = j} {y = w} (omega arith)).1 lt, omega arith, omega arith)

pub row_same : (b t : ℕ) (g : BufferImageCopy) (z y : ℕ) (areas : List Area) → AreAreas areas (bytes_of b (buffer_texel g t z y 0 0) (g.width * t)) → AreAreas areas (row_bytes b t g z y)
row_same b t g z y areas are = areas_same areas (bytes_of b (buffer_texel g t z y 0 0) (g.width * t)) (row_bytes b t g z y) (row_from b t g z y) (row_to b t g z y) are

-- a row that begins past the numbers of 64 bits has no byte with a number
pub no_row : (b t : ℕ) (g : BufferImageCopy) (z y : ℕ) → 2 ^ 64 ≤ buffer_texel g t z y 0 0 → AreAreas [] (row_bytes b t g z y)
no_row b t g z y over = no_area (row_bytes b t g z y) none
  where
    none : (c : Byte) → IsNumbered c → Contains (row_bytes b t g z y) c → false ≡ true
    none c numbered h =
        let m = bytes_from b (buffer_texel g t z y 0 0) (g.width * t) c (row_to b t g z y c h) in
        let n : buffer_texel g t z y 0 0 + m.0 < 2 ^ 64 - 1 = subst IsNumbered m.2 numbered in
        absurd (omega arith)

-- a region without texels has no rows
pub empty_row : (b t : ℕ) (g : BufferImageCopy) (z y : ℕ) → g.width * t ≡ 0 → AreAreas [] (row_bytes b t g z y)
empty_row b t g z y none = no_area (row_bytes b t g z y) (λ c numbered h. absurd (let m = bytes_from b (buffer_texel g t z y 0 0) (g.width * t) c (row_to b t g z y c h) in let lt : m.0 < g.width * t = m.1 in omega arith))

-- a factor above zero makes nothing less
grown : (n a : ℕ) → 0 < a → n ≤ n * a
grown n (suc a) lt = omega arith
grown n zero lt = absurd (omega arith)

-- where a row begins is past what its parts are past
pub past_texels : (g : BufferImageCopy) (t z y n : ℕ) → 0 < t → n ≤ (z * layer_rows g + y) * row_texels g → n ≤ buffer_texel g t z y 0 0
past_texels g t z y n some le = go ((z * layer_rows g + y) * row_texels g) le (grown ((z * layer_rows g + y) * row_texels g) t some)
  where
    go : (m : ℕ) → n ≤ m → m ≤ m * t → n ≤ g.buffer_offset + (m + 0) * t + 0
    go m a b = omega arith

pub past_rows : (g : BufferImageCopy) (t z y n : ℕ) → 0 < row_texels g → 0 < t → n ≤ z * layer_rows g + y → n ≤ buffer_texel g t z y 0 0
past_rows g t z y n some some_bytes le =
    let a : ℕ = z * layer_rows g + y in
    let first : a ≤ a * row_texels g = grown a (row_texels g) some in
    past_texels g t z y n some_bytes (omega arith)

-- ---- one region more

pub added : {G : Type 0} (f : G → List Byte) (gs : List G) (i : ℕ) (d : G) (areas all more : List Area) → all ≡ areas ++ more → i < length gs
    → AreAreas areas (flat_map f (take i gs)) → AreAreas more (f (get_or gs i d)) → AreAreas all (flat_map f (take (i + 1) gs))
added f gs i d areas all more is lt are one =
    rw (is, take_more gs i d lt, flat_map-append f (take i gs) (get_or gs i d ∷ [])) (areas_append areas more (flat_map f (take i gs)) (f (get_or gs i d) ++ []) are (rw (append-nil (f (get_or gs i d))) one))

-- one number more
pub added_at : (f : ℕ → List Byte) (n : ℕ) (areas all more : List Area) → all ≡ areas ++ more → AreAreas areas (flat_map f (below n)) → AreAreas more (f n) → AreAreas all (flat_map f (below (n + 1)))
added_at f n areas all more is are one = rw (is, flat_more f n) (areas_append areas more (flat_map f (below n)) (f n) are one)
