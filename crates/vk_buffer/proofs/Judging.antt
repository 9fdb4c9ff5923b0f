-- The rules on bindings, of a point and of the memory object that it binds in.
use Rattle.std.proofs.Common.{◌≡◌, ℕ, suc, zero, ◌+◌, ◌%◌, [], ◌∷◌, Bool, true, not, ◌&&◌, ◌||◌, ◌==◌, Option, Some, None, refl, ap, sym, ◌∙◌, arith, lit<}
use Rattle.std.specs.Prelude.{Contains, nat_lt, option_map}
use Rattle.std.proofs.lemmas.Bool.{eqb-true, eq-eqb, le-ltb, ne_eqb, and_parts, and_from}
use Rattle.vk_model.specs.declared.entry.Entry.{Entry}
use Rattle.vk_model.specs.declared.entry.Entry.TheVariants as entry
use Rattle.vk_model.specs.declared.resource.Kind.{Kind}
use Rattle.vk_model.specs.declared.resource.Kind.TheVariants as kind
use Rattle.vk_model.specs.declared.resource.Place.{Place}
use Rattle.vk_model.specs.declared.resource.Place.TheVariants as place
use Rattle.vk_model.specs.declared.rule.Rule.{Rule}
use Rattle.vk_model.specs.declared.rule.Rule.TheVariants as rule
use Rattle.vk_model.specs.Basics.{holds}
use Rattle.vk_model.specs.Memory.Addresses.{bit, memory_types, need_of}
use Rattle.vk_model.specs.Memory.Suballocation.{conflict}
use Rattle.vk_model.specs.Rules.Binding as binding
use Rattle.vk_model.specs.Rules.Sizes.{allows, bad_type}
use Rattle.vk_model.specs.Rules.Table.{breaks}
use Rattle.vk_model.specs.Trace.Objects.{Resource, resource_in, resource, memory, bound_at, type_at, of_buffer, of_image, live_resources}
use Rattle.vk_model.specs.Trace.Point.{Past, Point}
use Rattle.vk_model.proofs.Lists.Members.{member_passes, some_member}
use Rattle.vk_model.proofs.Lists.Truths.{bool_same}
use Rattle.vk_buffer.specs.declared.bindings.BoundResource.{BoundResource}
use Rattle.vk_buffer.specs.BoundMemory.{BoundMemory, refusal, is_wrong_type, ends_past, is_misplaced, is_aliased, conflicts_with}
use Rattle.vk_buffer.specs.Judging.{Binds, IsMemoryOf, first_of_binding}
use Rattle.vk_buffer.proofs.Firsts.{first_chosen}
use Rattle.vk_buffer.proofs.Types.{no_bit_above}

-- ---- memory types

-- the mask of a resource has the types that it allows
type_bit : (k : Kind) (t : ℕ) → (bit (memory_types k) t == 1) ≡ allows k t
type_bit kind.Linear zero = refl
type_bit kind.Linear (suc zero) = refl
type_bit kind.Linear (suc (suc zero)) = refl
type_bit kind.Linear (suc (suc (suc t))) =
    no_bit_above 7 3 (suc (suc (suc t))) (lit< tt) (omega arith) ∙ sym (le-ltb (suc (suc (suc t))) 3 (omega arith))
type_bit kind.Optimal zero = refl
type_bit kind.Optimal (suc t) = no_bit_above 1 1 (suc t) (lit< tt) (omega arith) ∙ sym (ne_eqb (suc t) 0 (λ e. omega arith))

module _ (past : Past) where
  type_tested : (x : Entry) (r : Resource) → resource_in x ≡ Some r → bad_type past x ≡ holds (type_at past r.place) (λ t. not (allows r.kind t))
  type_tested (entry.Buffer i b) r e = let same : of_buffer b ≡ r = cc in ap (λ (z : Resource). holds (type_at past z.place) (λ t. not (allows z.kind t))) same
  type_tested (entry.Image i b) r e = let same : of_image b ≡ r = cc in ap (λ (z : Resource). holds (type_at past z.place) (λ t. not (allows z.kind t))) same
  type_tested (entry.Pool i b) r e = absurd cc
  type_tested (entry.Memory i b) r e = absurd cc
  type_tested _ r e = absurd cc

  -- a place in a memory object has its type
  type_there : (x : Place) (m o : ℕ) → bound_at x ≡ Some (m, o) → type_at past x ≡ option_map (λ i. i.memory_type) (memory past m)
  type_there (place.Memory n q) m o e =
      let same : ◌≡◌ {A = ℕ × ℕ} (n, q) (m, o) = cc in
      ap (λ (t : ℕ × ℕ). option_map (λ i. i.memory_type) (memory past t.0)) same
  type_there _ m o e = absurd cc

module _ (past : Past) (p : Point) (r : Resource) (m o : ℕ) (s : BoundMemory) (binds : Binds p r m o) (inside : IsMemoryOf past m s) where
  type_is : type_at past r.place ≡ Some s.memory_type
  type_is = type_there past r.place m o binds.there ∙ ap (λ z. option_map (λ i. i.memory_type) z) inside.made

  on_bound_is : (test : Resource → ℕ → ℕ → Bool) → binding.on_bound test binds.entry ≡ test r m o
  on_bound_is test =
      ap (λ (z : Option Resource). holds z (λ q. holds (bound_at q.place) (λ t. test q t.0 t.1))) binds.makes
      ∙ ap (λ (z : Option (ℕ × ℕ)). holds z (λ t. test r t.0 t.1)) binds.there

  wrong_type : breaks rule.MemoryType past p ≡ is_wrong_type s (need_of r)
  unfolding breaks
  wrong_type = rw binds.host (type_tested past binds.entry r binds.makes ∙ ap (λ (z : Option ℕ). holds z (λ t. not (allows r.kind t))) type_is ∙ ap not (sym (type_bit r.kind s.memory_type)))

  past_end : breaks rule.BindRange past p ≡ ends_past s o (need_of r)
  unfolding breaks
  past_end = rw binds.host (on_bound_is (binding.ends_past_memory past) ∙ ap (λ z. holds z (λ x. nat_lt x.size (o + r.size))) inside.made)

  misplaced : breaks rule.BindAlign past p ≡ is_misplaced s o (need_of r)
  unfolding breaks
  misplaced = rw binds.host (on_bound_is (binding.is_misplaced past) ∙ ap (λ (z : Option ℕ). not (o % r.align == 0) || holds z (λ t. t == 2) && not (o % 64 == 0)) type_is)

  -- ---- what is bound there

  abbrev in_past : ℕ → Bool
  in_past i = holds (resource past i) (binding.conflicts_with past r m o)

  from_place : (i : ℕ) (q : Resource) → Contains (live_resources past) i → resource past i ≡ Some q → (t : Option (ℕ × ℕ)) → bound_at q.place ≡ t
      → holds t (λ u. m == u.0 && conflict r.kind o r.size q.kind u.1 q.size) ≡ true → is_aliased s o r.size r.kind ≡ true
  from_place i q live is None at h = absurd cc
  from_place i q live is (Some t) at h =
      let parts = and_parts (m == t.0) (conflict r.kind o r.size q.kind t.1 q.size) h in
      let b : BoundResource = record { size = q.size; kind = q.kind } in
      let there : bound_at q.place ≡ Some (m, t.1) = at ∙ ap (λ (n : ℕ). Some (n, t.1)) (sym (eqb-true m t.0 parts.0)) in
      member_passes (conflicts_with o r.size r.kind) s.bound (t.1, b) ((inside.has t.1 b).1 (i, q, live, is, there, refl)) parts.1

  from_live : (i : ℕ) → Contains (live_resources past) i → (q : Option Resource) → resource past i ≡ q → holds q (binding.conflicts_with past r m o) ≡ true → is_aliased s o r.size r.kind ≡ true
  from_live i live None is h = absurd cc
  from_live i live (Some q) is h = from_place i q live is (bound_at q.place) refl h

  forth : binding.is_aliased past r m o ≡ true → is_aliased s o r.size r.kind ≡ true
  forth h = let some = some_member in_past (live_resources past) h in from_live some.0 some.1 (resource past some.0) refl some.2

  back : is_aliased s o r.size r.kind ≡ true → binding.is_aliased past r m o ≡ true
  back h =
      let some = some_member (conflicts_with o r.size r.kind) s.bound h in
      let e = some.0 in
      let it = (inside.has e.0 e.1).0 some.1 in
      let q : Resource = it.1 in
      let hit : conflict r.kind o r.size q.kind e.0 q.size ≡ true = ap (λ (b : BoundResource). conflict r.kind o r.size b.kind e.0 b.size) (sym it.5) ∙ some.2 in
      let passes : in_past it.0 ≡ true =
      ap (λ (z : Option Resource). holds z (binding.conflicts_with past r m o)) it.3
      ∙ ap (λ (z : Option (ℕ × ℕ)). holds z (λ u. m == u.0 && conflict r.kind o r.size q.kind u.1 q.size)) it.4
      ∙ and_from (m == m) (conflict r.kind o r.size q.kind e.0 q.size) (eq-eqb m m refl) hit in
      member_passes in_past (live_resources past) it.0 it.2 passes

  aliased : breaks rule.Aliased past p ≡ is_aliased s o r.size r.kind
  unfolding breaks
  aliased = rw binds.host (on_bound_is (binding.is_aliased past) ∙ bool_same (binding.is_aliased past r m o) (is_aliased s o r.size r.kind) forth back)

  -- ---- all four

  abbrev broken : Rule → Bool
  broken x = breaks x past p

  pub judged : refusal s o (need_of r) r.kind ≡ first_of_binding past p
  judged =
      first_chosen broken rule.MemoryType (rule.BindRange ∷ rule.BindAlign ∷ rule.Aliased ∷ []) (is_wrong_type s (need_of r)) _ wrong_type
      (first_chosen broken rule.BindRange (rule.BindAlign ∷ rule.Aliased ∷ []) (ends_past s o (need_of r)) _ past_end
      (first_chosen broken rule.BindAlign (rule.Aliased ∷ []) (is_misplaced s o (need_of r)) _ misplaced
      (first_chosen broken rule.Aliased [] (is_aliased s o r.size r.kind) None aliased refl)))
