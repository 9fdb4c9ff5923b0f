-- Ranges that follow one another, on pages of their own where their kinds differ.
use Rattle.std.proofs.Common.{◌≡◌, ℕ, ◌+◌, ◌-◌, ◌*◌, ◌/◌, ◌<◌, ◌≤◌, Bool, true, false, refl, ◌∙◌, arith, inl, inr}
use Rattle.std.specs.Prelude.{Some, if◌then◌else◌}
use Rattle.std.proofs.lemmas.Bool.{and_left, and_right, and_from, or_from, or_parts, le-ltb, lt-leb, le-leb, lt-ltb, both_ways, cases_Bool, cases_lt}
use Rattle.vk_model.specs.declared.resource.Kind.{Kind}
use Rattle.vk_model.specs.declared.resource.Kind.TheVariants as kind
use Rattle.vk_model.specs.Basics.{round_up}
use Rattle.vk_model.specs.Memory.Suballocation.{Taken, IsApart, same_kind, share_page}
use Rattle.vma_linear.specs.Inner.Gaps.{free_from, free_to}
use Rattle.vk_model.proofs.Lists.Truths.{only_if_not, if_not}
use Rattle.vk_model.proofs.Memory.Taken.{same_kind_turned}

-- one range ends before the other, and on an earlier page where their kinds differ
pub record Follows (t u : Taken) : Type 0 where
  pub after : t.start + t.size ≤ u.start
  pub pages : same_kind t.kind u.kind ≡ false → (t.start + t.size - 1) / 1024 < u.start / 1024

same_third : (k l m : Kind) → same_kind k m ≡ false → same_kind l m ≡ true → same_kind k l ≡ false
same_third kind.Linear kind.Linear kind.Linear e f = e
same_third kind.Linear kind.Linear kind.Optimal e f = absurd cc
same_third kind.Linear kind.Optimal kind.Linear e f = refl
same_third kind.Linear kind.Optimal kind.Optimal e f = refl
same_third kind.Optimal kind.Linear kind.Linear e f = refl
same_third kind.Optimal kind.Linear kind.Optimal e f = absurd cc
same_third kind.Optimal kind.Optimal kind.Linear e f = absurd cc
same_third kind.Optimal kind.Optimal kind.Optimal e f = e

-- ---- following is being apart

pub follows_apart : (t u : Taken) → Follows t u → IsApart t u
follows_apart t u f =
    let after = f.after in
    or_from _ _ (and_right _ _ (le-ltb u.start (t.start + t.size) after))
    (only_if_not (same_kind t.kind u.kind) _ (λ differ. and_right _ _ (lt-leb (u.start / 1024) ((t.start + t.size - 1) / 1024) (f.pages differ))))

pub follows_apart_turned : (t u : Taken) → Follows t u → IsApart u t
follows_apart_turned t u f =
    or_from _ _ (and_left _ _ (and_right _ _ (le-ltb u.start (t.start + t.size) f.after)))
    (only_if_not (same_kind u.kind t.kind) _ (λ differ. and_left _ _ (and_right _ _ (lt-leb (u.start / 1024) ((t.start + t.size - 1) / 1024) (f.pages (same_kind_turned t.kind u.kind ∙ differ))))))

apart_pages : (t u : Taken) → 0 < t.size → 0 < u.size → t.start + t.size ≤ u.start → share_page t.start t.size u.start u.size ≡ false → (t.start + t.size - 1) / 1024 < u.start / 1024
apart_pages t u some more after none = elim (cases_lt ((t.start + t.size - 1) / 1024) (u.start / 1024)) [
  | inl less ↦ less
  | inr shared ↦
      let first : t.start / 1024 ≤ (u.start + u.size - 1) / 1024 = omega arith in
      absurd (both_ways _ none (and_from _ _ (and_from _ _ (and_from _ _ (lt-ltb 0 t.size some) (lt-ltb 0 u.size more)) (le-leb _ _ first)) (le-leb _ _ shared)))
]

apart_pages_turned : (t u : Taken) → 0 < t.size → 0 < u.size → t.start + t.size ≤ u.start → share_page u.start u.size t.start t.size ≡ false → (t.start + t.size - 1) / 1024 < u.start / 1024
apart_pages_turned t u some more after none = elim (cases_lt ((t.start + t.size - 1) / 1024) (u.start / 1024)) [
  | inl less ↦ less
  | inr shared ↦
      let first : t.start / 1024 ≤ (u.start + u.size - 1) / 1024 = omega arith in
      absurd (both_ways _ none (and_from _ _ (and_from _ _ (and_from _ _ (lt-ltb 0 u.size more) (lt-ltb 0 t.size some)) (le-leb _ _ shared)) (le-leb _ _ first)))
]

pub apart_follows : (t u : Taken) → 0 < t.size → 0 < u.size → t.start + t.size ≤ u.start → IsApart t u → Follows t u
apart_follows t u some more after apart = record {
  after = after;
  pages = λ differ. apart_pages t u some more after (if_not (same_kind t.kind u.kind) _ (or_parts _ _ apart).1 differ);
}

pub apart_follows_turned : (t u : Taken) → 0 < t.size → 0 < u.size → t.start + t.size ≤ u.start → IsApart u t → Follows t u
apart_follows_turned t u some more after apart = record {
  after = after;
  pages = λ differ. apart_pages_turned t u some more after (if_not (same_kind u.kind t.kind) _ (or_parts _ _ apart).1 (same_kind_turned u.kind t.kind ∙ differ));
}

pub follows_trans : (t u v : Taken) → 0 < u.size → Follows t u → Follows u v → Follows t v
follows_trans t u v some f g = record {
  after = omega (arith, f.after, g.after);
  pages = λ differ. elim (cases_Bool (same_kind u.kind v.kind)) [
    | inl same ↦
        let less = f.pages (same_third t.kind u.kind v.kind differ same) in
        let after = g.after in
        omega arith
    | inr apart ↦
        let less = g.pages apart in
        let after = f.after in
        omega arith
  ];
}

-- ---- following is lying in a gap

pub from_follows : (size : ℕ) (t x : Taken) → 0 < t.size → Follows t x → free_from x.kind (Some t) ≤ x.start
from_follows size t x some f = go (same_kind t.kind x.kind) f.pages
  where
    go : (b : Bool) → (b ≡ false → (t.start + t.size - 1) / 1024 < x.start / 1024) → (if b then t.start + t.size else round_up (t.start + t.size) 1024) ≤ x.start
    go true h = f.after
    go false h = let less = h refl in omega arith

pub follows_from : (t x : Taken) → 0 < t.size → free_from x.kind (Some t) ≤ x.start → Follows t x
follows_from t x some le = go (same_kind t.kind x.kind) refl le
  where
    go : (b : Bool) → same_kind t.kind x.kind ≡ b → (if b then t.start + t.size else round_up (t.start + t.size) 1024) ≤ x.start → Follows t x
    go true e h = record { after = h; pages = λ differ. absurd cc }
    go false e h = record { after = omega arith; pages = λ differ. omega arith }

pub to_follows : (size : ℕ) (x t : Taken) → 0 < x.size → Follows x t → x.start + x.size ≤ free_to size x.kind (Some t)
to_follows size x t some f = go (same_kind x.kind t.kind) f.pages
  where
    go : (b : Bool) → (b ≡ false → (x.start + x.size - 1) / 1024 < t.start / 1024) → x.start + x.size ≤ (if b then t.start else t.start / 1024 * 1024)
    go true h = f.after
    go false h = let less = h refl in omega arith

pub follows_to : (size : ℕ) (x t : Taken) → 0 < x.size → x.start + x.size ≤ free_to size x.kind (Some t) → Follows x t
follows_to size x t some le = go (same_kind x.kind t.kind) refl le
  where
    go : (b : Bool) → same_kind x.kind t.kind ≡ b → x.start + x.size ≤ (if b then t.start else t.start / 1024 * 1024) → Follows x t
    go true e h = record { after = h; pages = λ differ. absurd cc }
    go false e h = record { after = omega arith; pages = λ differ. omega arith }
