-- Ranges that don't conflict: what that says of their bytes and pages, and which of them answer for the others. Other crates cite it.
use Rattle.std.proofs.Common.{◌≡◌, ℕ, ◌+◌, ◌-◌, ◌/◌, ◌<◌, ◌≤◌, ◌⊎◌, inl, inr, true, false, not, ◌&&◌, refl, ◌∙◌, arith}
use Rattle.std.specs.Prelude.{nat_lt, nat_le}
use Rattle.std.proofs.lemmas.Bool.{lt-ltb, le-ltb, le-leb, lt-leb, cases_lt, or_parts, or_from, and_right, and_from, and_left}
use Rattle.vk_model.specs.declared.resource.Kind.{Kind}
use Rattle.vk_model.specs.declared.resource.Kind.TheVariants.{Linear, Optimal}
use Rattle.vk_model.specs.Memory.Suballocation.{conflict, same_kind, ranges_meet, share_page}
use Rattle.vk_model.proofs.Lists.Truths.{clash, only_if_not, if_not}
use Rattle.vk_model.proofs.Memory.Taken.{same_kind_turned}

-- two ranges that have bytes and don't conflict: the one ends before the other, and on an earlier page where they aren't of one kind
pub record IsClear (k : Kind) (a n : ℕ) (l : Kind) (b m : ℕ) : Type 0 where
  pub bytes : (b + m ≤ a) ⊎ (a + n ≤ b)
  pub pages : same_kind k l ≡ false → ((b + m - 1) / 1024 < a / 1024) ⊎ ((a + n - 1) / 1024 < b / 1024)

-- ---- kinds

-- of two kinds that differ, one differs from a third
pub third_kind : (k l h : Kind) → same_kind k l ≡ false → (same_kind k h ≡ false) ⊎ (same_kind l h ≡ false)
third_kind Linear Linear h e = absurd cc
third_kind Optimal Optimal h e = absurd cc
third_kind Linear Optimal Linear e = inr refl
third_kind Linear Optimal Optimal e = inl refl
third_kind Optimal Linear Linear e = inl refl
third_kind Optimal Linear Optimal e = inr refl

-- ---- from the test and back

meets : (a n b m : ℕ) → 0 < n → 0 < m → a < b + m → b < a + n → ranges_meet a n b m ≡ true
meets a n b m n0 m0 low high = and_from _ _ (and_from _ _ (and_from _ _ (lt-ltb 0 n n0) (lt-ltb 0 m m0)) (lt-ltb a (b + m) low)) (lt-ltb b (a + n) high)

shares : (a n b m : ℕ) → 0 < n → 0 < m → a / 1024 ≤ (b + m - 1) / 1024 → b / 1024 ≤ (a + n - 1) / 1024 → share_page a n b m ≡ true
shares a n b m n0 m0 low high = and_from _ _ (and_from _ _ (and_from _ _ (lt-ltb 0 n n0) (lt-ltb 0 m m0)) (le-leb (a / 1024) ((b + m - 1) / 1024) low)) (le-leb (b / 1024) ((a + n - 1) / 1024) high)

pub clear_from : (k : Kind) (a n : ℕ) (l : Kind) (b m : ℕ) → 0 < n → 0 < m → conflict k a n l b m ≡ false → IsClear k a n l b m
clear_from k a n l b m n0 m0 h =
    let parts = or_parts (ranges_meet a n b m) (not (same_kind k l) && share_page a n b m) h in
    record { bytes = apart parts.0; pages = λ e. paged (if_not (same_kind k l) (share_page a n b m) parts.1 e) }
  where
    apart : ranges_meet a n b m ≡ false → (b + m ≤ a) ⊎ (a + n ≤ b)
    apart f = elim (cases_lt a (b + m)) [
      | inl low ↦ elim (cases_lt b (a + n)) [ inl high ↦ clash (meets a n b m n0 m0 low high) f | inr le ↦ inr le ]
      | inr le ↦ inl le
    ]

    paged : share_page a n b m ≡ false → ((b + m - 1) / 1024 < a / 1024) ⊎ ((a + n - 1) / 1024 < b / 1024)
    paged f = elim (cases_lt ((b + m - 1) / 1024) (a / 1024)) [
      | inl lt ↦ inl lt
      | inr low ↦ elim (cases_lt ((a + n - 1) / 1024) (b / 1024)) [ inl lt ↦ inr lt | inr high ↦ clash (shares a n b m n0 m0 low high) f ]
    ]

pub clear_is : (k : Kind) (a n : ℕ) (l : Kind) (b m : ℕ) → IsClear k a n l b m → conflict k a n l b m ≡ false
clear_is k a n l b m clear = or_from _ _ apart (only_if_not (same_kind k l) (share_page a n b m) paged)
  where
    apart : ranges_meet a n b m ≡ false
    apart = elim clear.bytes [
      | inl le ↦ and_left _ _ (and_right (nat_lt 0 n && nat_lt 0 m) (nat_lt a (b + m)) (le-ltb a (b + m) le))
      | inr le ↦ and_right (nat_lt 0 n && nat_lt 0 m && nat_lt a (b + m)) (nat_lt b (a + n)) (le-ltb b (a + n) le)
    ]

    paged : same_kind k l ≡ false → share_page a n b m ≡ false
    paged e = elim (clear.pages e) [
      | inl lt ↦ and_left _ _ (and_right (nat_lt 0 n && nat_lt 0 m) (nat_le (a / 1024) ((b + m - 1) / 1024)) (lt-leb (a / 1024) ((b + m - 1) / 1024) lt))
      | inr lt ↦ and_right (nat_lt 0 n && nat_lt 0 m && nat_le (a / 1024) ((b + m - 1) / 1024)) (nat_le (b / 1024) ((a + n - 1) / 1024)) (lt-leb (b / 1024) ((a + n - 1) / 1024) lt)
    ]

-- a range of no bytes conflicts with none
pub none_clear : (k : Kind) (a : ℕ) (l : Kind) (b m : ℕ) → conflict k a 0 l b m ≡ false
none_clear k a l b m = and_right (not (same_kind k l)) false refl

pub clear_turned : (k : Kind) (a n : ℕ) (l : Kind) (b m : ℕ) → IsClear k a n l b m → IsClear l b m k a n
clear_turned k a n l b m clear = record {
  bytes = elim clear.bytes [ inl le ↦ inr le | inr le ↦ inl le ];
  pages = λ e. elim (clear.pages (same_kind_turned k l ∙ e)) [ inl lt ↦ inr lt | inr lt ↦ inl lt ];
}

-- ---- which of those that don't conflict answer for the others

-- a range that starts at p or after it, and is clear of the one at p, is clear of those before that one
pub clear_before : (k : Kind) (o n : ℕ) (l : Kind) (b m : ℕ) (h : Kind) (p s : ℕ) → 0 < n → 0 < m → 0 < s → b < p → p ≤ o → IsClear l b m h p s → IsClear k o n h p s → IsClear k o n l b m
clear_before k o n l b m h p s n0 m0 s0 less le first clear = record {
  bytes = elim first.bytes [ inl past ↦ absurd (omega arith) | inr ends ↦ inl (omega arith) ];
  pages = λ e. elim (third_kind k l h e) [
    | inl other ↦ elim (clear.pages other) [ inl lt ↦ inl (elim first.bytes [ inl past ↦ absurd (omega arith) | inr ends ↦ omega arith ]) | inr lt ↦ absurd (omega arith) ]
    | inr other ↦ elim (first.pages other) [ inl lt ↦ absurd (omega arith) | inr lt ↦ inl (omega arith) ]
  ];
}

-- a range that starts before q, and is clear of the one at q, is clear of those after that one
pub clear_after : (k : Kind) (o n : ℕ) (l : Kind) (b m : ℕ) (h : Kind) (q s : ℕ) → 0 < n → 0 < m → 0 < s → o < q → q < b → IsClear h q s l b m → IsClear k o n h q s → IsClear k o n l b m
clear_after k o n l b m h q s n0 m0 s0 less more first clear = record {
  bytes = elim clear.bytes [ inl past ↦ absurd (omega arith) | inr ends ↦ inr (omega arith) ];
  pages = λ e. elim (third_kind k l h e) [
    | inl other ↦ elim (clear.pages other) [ inl lt ↦ absurd (omega arith) | inr lt ↦ inr (omega arith) ]
    | inr other ↦ elim (first.pages (same_kind_turned h l ∙ other)) [
      | inl lt ↦ absurd (omega arith)
      | inr lt ↦ inr (elim clear.bytes [ inl past ↦ absurd (omega arith) | inr ends ↦ omega arith ])
    ]
  ];
}
