-- The bytes that layout transitions read and write: bytes of images, the same whatever points come; and two transitions of one command have none in common.
use Rattle.std.proofs.Common.{◌≡◌, ◌<◌, ◌≤◌, ℕ, ◌+◌, List, [], ◌∷◌, ◌++◌, map, length, Bool, true, false, not, ◌&&◌, ◌||◌, Option, Some, None, refl, ap, sym, ◌∙◌, subst, arith, ◌⊎◌, inl, inr, ⊎_elim}
use Rattle.std.specs.Prelude.{Contains, option_and_then, if◌then◌else◌}
use Rattle.std.specs.List.{list_any, flat_map}
use Rattle.std.proofs.lemmas.Bool.{lt-ltb, eq-eqb, or_left, false_from_ne_true}
use Rattle.vk_model.specs.declared.command.Cmd.{Cmd}
use Rattle.vk_model.specs.declared.command.Cmd.TheVariants as cmd
use Rattle.vk_model.specs.declared.command.Element.{Element}
use Rattle.vk_model.specs.declared.command.Element.TheVariants as element
use Rattle.vk_model.specs.declared.command.ImageElement.{ImageElement}
use Rattle.vk_model.specs.declared.entry.Entry.{Entry}
use Rattle.vk_model.specs.declared.entry.Entry.TheVariants as entry
use Rattle.vk_model.specs.declared.resource.ImageInfo.{ImageInfo}
use Rattle.vk_model.specs.Basics.{below, some_pair}
use Rattle.vk_model.specs.Trace.Image.{texel, level_width, level_height}
use Rattle.vk_model.specs.Trace.Objects.{made, image, image_in, is_cached}
use Rattle.vk_model.specs.Trace.Point.{Past, Point, Run}
use Rattle.vk_model.specs.World.Bytes.{Byte, in_buffer, in_image}
use Rattle.vk_model.specs.World.ByteWrites.{byte_writes, clear_write, clear_writes, level_bytes, subresource_bytes}
use Rattle.vk_model.specs.Memory.Suballocation.{ranges_meet}
use Rattle.vk_model.specs.World.Ownership.{is_transition, is_release}
use Rattle.vk_model.specs.Sync.Access.{is_in, targets, host_writes, host_reads, image_bytes, transition_bytes}
use Rattle.vk_model.specs.Rules.Fault.{Comes, newest, older, IsUnbroken}
use Rattle.vk_model.specs.Rules.Ids.{asked_by_element, is_dead, is_image, until}
use Rattle.vk_model.specs.Rules.Ranges.{transitions_meet}
use Rattle.vk_model.proofs.Lists.Grids.{grid_from}
use Rattle.vk_model.proofs.Lists.Members.{contains-cons, contains-head, contains-tail, flat_from, flat_has, mapped_from, member_passes, none_in, range_from, some_member}
use Rattle.vk_model.proofs.Lists.Truths.{clash, unless}
use Rattle.vk_laws.proofs.Caching.CachedStays.{cached_stays}
use Rattle.vk_laws.proofs.Nodes.Steady.{IsLive, IsNew, comes_within, live_ids, live_made, made_step, made_until, made_up, named_alive, new_ids}
use Rattle.vk_model.proofs.World.BytePlaces.{byte_same, is_in_from, common_meets}

-- ---- which bytes

-- a byte of an image, of a subresource of a transition
pub record IsMoved (past : Past) (q : ℕ) (e : Element) (b : Byte) : Type 0 where
  pub of : ImageElement
  pub named : e ≡ element.Image of
  pub moves : is_transition of ≡ true
  pub level : ℕ
  pub layer : ℕ
  pub x : ℕ
  pub y : ℕ
  pub texel_byte : ℕ
  pub byte : b ≡ in_image of.image level layer x y texel_byte
  pub level_low : of.range.first_level ≤ level
  pub level_high : level < of.range.first_level + of.range.levels
  pub layer_low : of.range.first_layer ≤ layer
  pub layer_high : layer < of.range.first_layer + of.range.layers

pub moved : (past : Past) (q : ℕ) (e : Element) (b : Byte) → Contains (transition_bytes past q e) b → IsMoved past q e b
moved past q (element.Memory d) b c = absurd (none_in b c)
moved past q (element.Buffer d) b c = absurd (none_in b c)
moved past q (element.Image d) b c = by_test (is_transition d) refl (not (is_release q (element.Image d))) c where
  by_image : is_transition d ≡ true → (o : Option ImageInfo) → Contains (image_bytes o d) b → IsMoved past q (element.Image d) b
  by_image t None c = absurd (none_in b c)
  by_image t (Some m) c =
      let p = mapped_from (λ p. p.0) (subresource_bytes d.image m d.range) b c in
      let l = flat_from (λ k. level_bytes d.image m d.range (d.range.first_level + k)) (below d.range.levels) p.0 p.1 in
      let k = range_from 0 d.range.levels l.0 l.1 in
      let level : ℕ = d.range.first_level + l.0 in
      let g = grid_from (λ z y x b. (in_image d.image level (d.range.first_layer + z) x y b, b)) d.range.layers (level_height m level) (level_width m level) (texel m.format) p.0 l.2 in
      record {
        of = d;
        named = refl;
        moves = t;
        level = level;
        layer = d.range.first_layer + g.z;
        x = g.x;
        y = g.y;
        texel_byte = g.k;
        byte = sym p.2 ∙ ap (λ (q : Byte × ℕ). q.0) g.is;
        level_low = omega arith;
        level_high = let lt = k.1 in omega arith;
        layer_low = omega arith;
        layer_high = let lt = g.low_z in omega arith;
      }

  by_test : (t : Bool) → is_transition d ≡ t → (u : Bool) → Contains (let bs : List Byte = if t && u then image_bytes (image past d.image) d else [] in bs) b → IsMoved past q (element.Image d) b
  by_test true e true c = by_image e (image past d.image) c
  by_test true e false c = absurd (none_in b c)
  by_test false e u c = absurd (none_in b c)

-- the host accesses none of them
host_bytes : (x : Entry) (b : Byte) → Contains (host_writes x) b ⊎ Contains (host_reads x) b → (c k : ℕ) × (b ≡ in_buffer c k)
host_bytes x b (inl c) = writes x c where
  writes : (x : Entry) → Contains (host_writes x) b → (c k : ℕ) × (b ≡ in_buffer c k)
  writes (entry.Write i o bytes) c = let m = mapped_from (λ k. in_buffer i (o + k)) (below (length bytes)) b c in (i, o + m.0, sym m.2)
  writes _ c = absurd (none_in b c)
host_bytes x b (inr c) = reads x c where
  reads : (x : Entry) → Contains (host_reads x) b → (c k : ℕ) × (b ≡ in_buffer c k)
  reads (entry.Read i o n) c = let m = mapped_from (λ k. in_buffer i (o + k)) (below n) b c in (i, o + m.0, sym m.2)
  reads _ c = absurd (none_in b c)

pub unwritten : (past : Past) (q : ℕ) (e : Element) (b : Byte) (x : Entry) → is_in b (transition_bytes past q e) ≡ true → is_in b (host_writes x) ≡ true → ⊥
unwritten past q e b x h w = let m = moved past q e b (is_in_from b (transition_bytes past q e) h) in let c = host_bytes x b (inl (is_in_from b (host_writes x) w)) in let byte = m.byte in let bad = c.2 in cc

pub unread : (past : Past) (q : ℕ) (e : Element) (b : Byte) (x : Entry) → is_in b (transition_bytes past q e) ≡ true → is_in b (host_reads x) ≡ true → ⊥
unread past q e b x h r = let m = moved past q e b (is_in_from b (transition_bytes past q e) h) in let c = host_bytes x b (inr (is_in_from b (host_reads x) r)) in let byte = m.byte in let bad = c.2 in cc

-- and none is a buffer's
pub no_buffer : (past : Past) (q : ℕ) (e : Element) (c k : ℕ) → is_in (in_buffer c k) (transition_bytes past q e) ≡ false
no_buffer past q e c k = false_from_ne_true _ (λ h. let m = moved past q e (in_buffer c k) (is_in_from (in_buffer c k) (transition_bytes past q e) h) in let byte = m.byte in cc)

-- ---- they stay

-- a clear of the same range writes the same bytes
cleared : (d : ImageElement) (o : Option ImageInfo) → image_bytes o d ≡ targets (flat_map (clear_writes d.image [] o) (d.range ∷ []))
cleared d None = refl
cleared d (Some m) = go (subresource_bytes d.image m d.range) where
  go : (ps : List (Byte × ℕ)) → map (λ p. p.0) ps ≡ targets (map (clear_write m []) ps ++ [])
  go [] = refl
  go (p ∷ ps) = ap (λ (l : List Byte). p.0 ∷ l) (go ps)

-- so they stay where commands' byte writes do
pub same_transition : (one other : Past) → ((c : Cmd) → byte_writes one c ≡ byte_writes other c) → (q : ℕ) (e : Element) → transition_bytes one q e ≡ transition_bytes other q e
same_transition one other same q (element.Memory d) = refl
same_transition one other same q (element.Buffer d) = refl
same_transition one other same q (element.Image d) =
    ap (λ (l : List Byte). let bs : List Byte = if is_transition d && not (is_release q (element.Image d)) then l else [] in bs)
    (cleared d (image one d.image) ∙ ap targets (same (cmd.Clear d.image d.old_layout [] (d.range ∷ []))) ∙ sym (cleared d (image other d.image)))

module _ (past : Past) (sound : IsUnbroken past) (newer before : Past) (q : Point) (es : List Element) (whole : past ≡ newer ++ q ∷ before) (runs : q.action ≡ Run (cmd.Barrier es)) where
  new : IsNew past
  new = new_ids past sound

  alive : IsLive past
  alive = live_ids past sound

  come : (c : Past) (r : Point) → Comes (q ∷ before) c r → Comes past c r
  come c r h = comes_within past newer (q ∷ before) whole c r h

  -- the image of an element is made before its point
  module _ (e : ImageElement) (there : Contains es (element.Image e)) where
    living : (x : Entry) × (made (until q.entry before) e.image ≡ Some x)
    living = live_made (until q.entry before) e.image is_image (unless _ (λ dead.
        named_alive past newer before q (cmd.Barrier es) whole runs new alive
        (member_passes (is_dead (until q.entry before)) (flat_map asked_by_element es) (e.image, is_image) (flat_has asked_by_element es (element.Image e) (e.image, is_image) there (contains-head (e.image, is_image) [])) dead)))

    made_then : made before e.image ≡ Some living.0
    made_then = made_until q.entry before e.image living.0 (λ c r h. new c r (come c r (older h))) living.1

    made_at : made (q ∷ before) e.image ≡ Some living.0
    made_at = made_step before q e.image living.0 (new before q (come before q newest)) made_then

    pub image_made : made past e.image ≡ made (q ∷ before) e.image
    image_made = ap (λ (l : Past). made l e.image) whole ∙ made_up newer (q ∷ before) e.image living.0 (λ c r h. new c r (subst (λ (l : Past). Comes l c r) (sym whole) h)) made_at ∙ sym made_at

    pub same_cached : is_cached past e.image ≡ is_cached (q ∷ before) e.image
    same_cached = ap (λ (l : Past). is_cached l e.image) whole
        ∙ cached_stays newer (q ∷ before) (λ c r h. new c r (subst (λ (l : Past). Comes l c r) (sym whole) h)) (λ c r h. alive c r (come c r h)) (λ c r h. new c r (come c r h)) e.image living.0 made_at

  pub transition_kept : (e : Element) → Contains es e → (k : ℕ) → transition_bytes past k e ≡ transition_bytes (q ∷ before) k e
  transition_kept (element.Memory d) there k = refl
  transition_kept (element.Buffer d) there k = refl
  transition_kept (element.Image d) there k =
      ap (λ (o : Option Entry). let bs : List Byte = if is_transition d && not (is_release k (element.Image d)) then image_bytes (option_and_then image_in o) d else [] in bs) (image_made d there)

-- ---- two of one command

-- two transitions of a byte meet
pub moved_twice : (past : Past) (q : ℕ) (d e : Element) (b : Byte) → is_in b (transition_bytes past q d) ≡ true → is_in b (transition_bytes past q e) ≡ true → transitions_meet d e ≡ true
moved_twice past q d e b hd he =
    let m = moved past q d b (is_in_from b (transition_bytes past q d) hd) in
    let n = moved past q e b (is_in_from b (transition_bytes past q e) he) in
    let same : in_image m.of.image m.level m.layer m.x m.y m.texel_byte ≡ in_image n.of.image n.level n.layer n.x n.y n.texel_byte = sym m.byte ∙ n.byte in
    let image_same : m.of.image ≡ n.of.image = (cc) in
    let level_same : m.level ≡ n.level = (cc) in
    let layer_same : m.layer ≡ n.layer = (cc) in
    let level_low = n.level_low in
    let level_high = n.level_high in
    let layer_low = n.layer_low in
    let layer_high = n.layer_high in
    rw (m.named, n.named)
    (rw (
      eq-eqb m.of.image n.of.image image_same,
      m.moves,
      n.moves,
      common_meets m.of.range.first_level m.of.range.levels n.of.range.first_level n.of.range.levels m.level m.level_low m.level_high (omega arith) (omega arith),
      common_meets m.of.range.first_layer m.of.range.layers n.of.range.first_layer n.of.range.layers m.layer m.layer_low m.layer_high (omega arith) (omega arith),
    ) refl)

module _ {A : Type 0} (back : List A) (e : A) where
  pub in_back : (front : List A) → Contains (front ++ e ∷ back) e
  in_back [] = contains-head e back
  in_back (g ∷ front) = contains-tail g (front ++ e ∷ back) e (in_back front)

  -- of a pair that none of a list is
  pub pair_apart : (test : A → A → Bool) (front : List A) (d : A) → some_pair test (front ++ e ∷ back) ≡ false → Contains front d → test d e ≡ false
  pair_apart test [] d none c = absurd (none_in d c)
  pair_apart test (f ∷ front) d none c = ⊎_elim
      (λ same. false_from_ne_true (test d e) (λ h. clash
      (or_left (list_any (test f) (front ++ e ∷ back)) (some_pair test (front ++ e ∷ back)) (member_passes (test f) (front ++ e ∷ back) e (in_back front) (subst (λ (x : A). test x e ≡ true) (sym same) h))) none))
      (λ later. pair_apart test front d (or_none (list_any (test f) (front ++ e ∷ back)) (some_pair test (front ++ e ∷ back)) none) later)
      (contains-cons f front d c)
    where
      or_none : (a b : Bool) → (a || b) ≡ false → b ≡ false
      or_none true b e = absurd cc
      or_none false b e = e
