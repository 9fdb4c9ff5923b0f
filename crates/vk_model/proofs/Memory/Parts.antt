-- Entries that are applied with parts. Other crates cite it.
use Rattle.std.proofs.Common.{◌≡◌, ℕ, ◌+◌, ◌<◌, ◌≤◌, List, [], ◌∷◌, ◌++◌, length, ◌==◌, refl, sym, ◌∙◌, subst, arith}
use Rattle.std.specs.Prelude.{Option, Some, None, if◌then◌else◌}
use Rattle.std.proofs.lemmas.Bool.{eq-eqb, ne_eqb}
use Rattle.vk_model.specs.declared.entry.Entry.{Entry}
use Rattle.vk_model.specs.Memory.HeapSizes.{HeapSizes}
use Rattle.vk_model.specs.Memory.Allocations.{Allocated, FindsNoRoom, Changes, Applied, EndsOn, parts_after, AppliedWith, EndsOnWith}
use Rattle.vk_model.specs.Memory.PassLaws.{PartsFollow}

pub without_parts : (parts : ℕ → ℕ) (n : ℕ) (d : Allocated) (t : List Entry) (e : Allocated) → AppliedWith parts n d t e → Applied d t e
without_parts parts n d [] e h = h
without_parts parts n d (x ∷ xs) e h = (h.0, h.1, h.2, without_parts parts (n + 1) h.0 xs e h.4)

ends_without : (parts : ℕ → ℕ) (sizes : HeapSizes) (t : List Entry) (stop : Option ℕ) (d : Allocated) → EndsOnWith parts sizes t stop d → EndsOn sizes t stop d
ends_without parts sizes t None d h = without_parts parts 0 _ t d h
ends_without parts sizes t (Some n) d h = h.1

-- parts that agree at these entries
pub parts_agree : (f g : ℕ → ℕ) (n : ℕ) (d : Allocated) (t : List Entry) (e : Allocated) → ((k : ℕ) → n ≤ k → k < n + length t → f k ≡ g k) → AppliedWith f n d t e → AppliedWith g n d t e
parts_agree f g n d [] e same h = h
parts_agree f g n d (x ∷ xs) e same h =
    (h.0, h.1, h.2, sym (same n (omega arith) (omega arith)) ∙ h.3, parts_agree f g (n + 1) h.0 xs e (λ k low high. same k (omega arith) (omega arith)) h.4)

-- one entry more, with the parts that it leaves
pub one_more : (parts : ℕ → ℕ) (n : ℕ) (d mid e : Allocated) (t : List Entry) (x : Entry) → AppliedWith parts n d t mid → (FindsNoRoom mid x → ⊥) → Changes mid x e → parts (n + length t) ≡ parts_after e x
    → AppliedWith parts n d (t ++ x ∷ []) e
one_more parts n d mid e [] x same room change here =
    let at : n + 0 ≡ n = omega arith in (
      e,
      subst (λ (k : Allocated). FindsNoRoom k x → ⊥) same room,
      subst (λ (k : Allocated). Changes k x e) same change,
      subst (λ (k : ℕ). parts k ≡ parts_after e x) at here,
      refl,
    )
one_more parts n d mid e (y ∷ t) x steps room change here =
    let at : n + length (y ∷ t) ≡ (n + 1) + length t = omega arith in
    (steps.0, steps.1, steps.2, steps.3, one_more parts (n + 1) steps.0 mid e t x steps.4 room change (subst (λ (k : ℕ). parts k ≡ parts_after e x) at here))

-- so many parts at entry n, and the others as they were
abbrev pub with_part : ℕ → ℕ → (ℕ → ℕ) → ℕ → ℕ
with_part n here parts k = if k == n then here else parts k

pub part_here : (n here : ℕ) (parts : ℕ → ℕ) → with_part n here parts n ≡ here
part_here n here parts = rw (eq-eqb n n refl) refl

pub part_elsewhere : (n here : ℕ) (parts : ℕ → ℕ) (k : ℕ) → (k ≡ n → ⊥) → with_part n here parts k ≡ parts k
part_elsewhere n here parts k other = rw (ne_eqb k n other) refl

pub extended : (parts : ℕ → ℕ) (n : ℕ) (d mid e : Allocated) (t : List Entry) (x : Entry) → AppliedWith parts n d t mid → (FindsNoRoom mid x → ⊥) → Changes mid x e
    → AppliedWith (with_part (n + length t) (parts_after e x) parts) n d (t ++ x ∷ []) e
extended parts n d mid e t x steps room change =
    let here = parts_after e x in
    let last = n + length t in
    one_more (with_part last here parts) n d mid e t x
    (parts_agree parts (with_part last here parts) n d t mid (λ k low high. sym (part_elsewhere last here parts k (λ same. omega arith))) steps) room change (part_here last here parts)

find_parts : (n : ℕ) (d : Allocated) (t : List Entry) (e : Allocated) → Applied d t e → (parts : ℕ → ℕ) × AppliedWith parts n d t e
find_parts n d [] e h = (λ k. 0, h)
find_parts n d (x ∷ xs) e h =
    let rest = find_parts (n + 1) h.0 xs e h.3 in
    let here = parts_after h.0 x in (
      with_part n here rest.0,
      (
        h.0,
        h.1,
        h.2,
        part_here n here rest.0,
        parts_agree rest.0 (with_part n here rest.0) (n + 1) h.0 xs e (λ k low high. sym (part_elsewhere n here rest.0 k (λ same. omega arith))) rest.1,
      ),
    )

pub parts_follow : PartsFollow
parts_follow = record { applied = without_parts; ends = ends_without; found = find_parts }
