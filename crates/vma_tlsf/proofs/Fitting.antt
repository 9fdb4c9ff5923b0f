-- Where a request fits in a free range: between the pages of its neighbours, and nowhere else.
use Rattle.std.proofs.Common.{◌≡◌, ℕ, ◌+◌, ◌-◌, ◌*◌, ◌/◌, ◌%◌, ◌<◌, ◌≤◌, ◌⊎◌, inl, inr, Bool, true, false, ◌&&◌, ◌==◌, not, cond, List, Option, Some, None, refl, ap, sym, ◌∙◌, arith}
use Rattle.std.specs.Prelude.{nat_le}
use Rattle.std.specs.List.{list_any}
use Rattle.std.proofs.lemmas.Bool.{and_parts, and_from, not-true, leb-true, le-leb, eqb-true, cases_eq}
use Rattle.std.proofs.lemmas.Bool.Decides.{leb_tells}
use Rattle.vk_nodes.specs.declared.node.Node.{Node}
use Rattle.vk_nodes.specs.declared.node.RangeState.TheVariants as state
use Rattle.vk_model.specs.declared.resource.Kind.{Kind}
use Rattle.vk_model.specs.declared.resource.Kind.TheVariants as kind
use Rattle.vk_model.specs.Memory.Suballocation.{conflict, same_kind}
use Rattle.vk_model.specs.Memory.Room.{fits}
use Rattle.vk_model.proofs.Memory.Taken.{conflict_turned, same_kind_turned}
use Rattle.vma_tlsf.specs.Inner.Chain.{Range, seen, IsLinked, taken_here, taken_in}
use Rattle.vma_tlsf.specs.Inner.Wants.{state_of}
use Rattle.vma_tlsf.specs.Inner.Fits.{is_other, other_in, other_at, low_of, high_of, IsBlock}
use Rattle.vma_tlsf.proofs.Splits.{some_same}
use Rattle.vma_tlsf.proofs.Cuts.{after_not_free, before_not_free, free_takes_none}
use Rattle.vma_tlsf.proofs.Conflicts.{kinds, third_kind, other_kind, meet_none, pages_none, no_conflict, meet_of, pages_of, any_none, any_each, one_any, state_cases, both_apart}

-- ---- pages

pub page_le : (a b : ℕ) → a ≤ b → a / 1024 ≤ b / 1024
page_le a b le = omega arith

pub page_up : (e a : ℕ) → 0 < e → e ≤ a → (e - 1) / 1024 < (a + 1023) / 1024 * 1024 / 1024
page_up e a some le = omega arith

pub page_down : (e b : ℕ) → 0 < e / 1024 * 1024 → e ≤ b → (e / 1024 * 1024 - 1) / 1024 < b / 1024
page_down e b some le = omega arith

pub up_le : (a : ℕ) → a ≤ (a + 1023) / 1024 * 1024
up_le a = omega arith

pub down_le : (e : ℕ) → e / 1024 * 1024 ≤ e
down_le e = omega arith

pub above_page : (e s : ℕ) → 0 < e → (e - 1) / 1024 < s / 1024 → (e + 1023) / 1024 * 1024 ≤ s
above_page e s some less = omega arith

pub below_page : (t e : ℕ) → 0 < t → (t - 1) / 1024 < e / 1024 → t ≤ e / 1024 * 1024
below_page t e some less = omega arith

-- ---- what the neighbours say

pub cond_true : {A : Type 0} (b : Bool) (x y : A) → b ≡ true → cond b x y ≡ x
cond_true b x y e = rw e refl

pub cond_false : {A : Type 0} (b : Bool) (x y : A) → b ≡ false → cond b x y ≡ y
cond_false b x y e = rw e refl

pub bool_cases : (b : Bool) → (b ≡ true) ⊎ (b ≡ false)
bool_cases true = inl refl
bool_cases false = inr refl

pub option_cases : (o : Option ℕ) → (o ≡ None) ⊎ ((j : ℕ) × (o ≡ Some j))
option_cases None = inl refl
option_cases (Some j) = inr (j, refl)

pub seen_cases : (o : Option Range) → (o ≡ None) ⊎ ((q : Range) × (o ≡ Some q))
seen_cases None = inl refl
seen_cases (Some q) = inr (q, refl)

pub other_is : (f : ℕ → Option Range) (o : Option ℕ) (j : ℕ) (q : Range) (k : Kind) → o ≡ Some j → f j ≡ Some q → other_at f o k ≡ is_other q.state k
other_is f o j q k on there = ap (λ v. other_at f v k) on ∙ ap (λ v. other_in v k) there

-- a taken neighbour of a free range
record Neighbour (f : ℕ → Option Range) (o : Option ℕ) : Type 0 where
  pub slot : ℕ
  pub range : Range
  pub sort : Kind
  pub on : o ≡ Some slot
  pub there : f slot ≡ Some range
  pub is : range.state ≡ state_of sort

module _ (whole root : ℕ) (nodes : List (Option Node)) (block : IsBlock whole root nodes) (slot : ℕ) (r : Range) (here : seen nodes slot ≡ Some r) (free : r.state ≡ state.Free)
    (k : Kind) (b : ℕ) (some : 0 < b) where
  abbrev f : ℕ → Option Range
  f = seen nodes

  linked : IsLinked whole f slot r
  linked = block.chain.linked slot r here

  left : (p : ℕ) → r.before ≡ Some p → (n : Neighbour f r.before) × (n.range.start + n.range.size ≡ r.start)
  left p on =
      let led = linked.before p on in
      let next = (block.chain.linked p led.range led.there).after slot led.on in
      let touches : led.range.start + led.range.size ≡ r.start = sym next.touches ∙ ap (λ v. v.start) (some_same next.range r (sym next.there ∙ here)) in
      elim (state_cases led.range.state) [
        | inl is_free ↦ absurd (before_not_free whole root f block.chain slot r here free p led.range on led.there is_free)
        | inr other ↦ (record { slot = p; range = led.range; sort = other.0; on = on; there = led.there; is = other.1 }, touches)
      ]

  right : (p : ℕ) → r.after ≡ Some p → (n : Neighbour f r.after) × (n.range.start ≡ r.start + r.size)
  right p on =
      let next = linked.after p on in
      elim (state_cases next.range.state) [
        | inl is_free ↦ absurd (after_not_free whole root f block.chain slot r here free p next.range on next.there is_free)
        | inr other ↦ (record { slot = p; range = next.range; sort = other.0; on = on; there = next.there; is = other.1 }, next.touches)
      ]

  -- whether it is of the other kind
  other_of : (o : Option ℕ) (n : Neighbour f o) → other_at f o k ≡ not (same_kind k n.sort)
  other_of o n = other_is f o n.slot n.range k n.on n.there ∙ ap (λ s. is_other s k) n.is ∙ other_kind k n.sort

  differs : (o : Option ℕ) (n : Neighbour f o) → other_at f o k ≡ true → same_kind k n.sort ≡ false
  differs o n e = not-true (same_kind k n.sort) (sym (other_of o n) ∙ e)

  is_other_there : (o : Option ℕ) (n : Neighbour f o) → same_kind k n.sort ≡ false → other_at f o k ≡ true
  is_other_there o n e = other_of o n ∙ ap not e

  low_up : other_at f r.before k ≡ true → low_of f r k ≡ (r.start + 1023) / 1024 * 1024
  low_up e = cond_true (other_at f r.before k) ((r.start + 1023) / 1024 * 1024) r.start e

  low_same : other_at f r.before k ≡ false → low_of f r k ≡ r.start
  low_same e = cond_false (other_at f r.before k) ((r.start + 1023) / 1024 * 1024) r.start e

  high_down : other_at f r.after k ≡ true → high_of f r k ≡ (r.start + r.size) / 1024 * 1024
  high_down e = cond_true (other_at f r.after k) ((r.start + r.size) / 1024 * 1024) (r.start + r.size) e

  high_same : other_at f r.after k ≡ false → high_of f r k ≡ r.start + r.size
  high_same e = cond_false (other_at f r.after k) ((r.start + r.size) / 1024 * 1024) (r.start + r.size) e

  pub low_from : r.start ≤ low_of f r k
  low_from = elim (bool_cases (other_at f r.before k)) [
    | inl e ↦ rw (low_up e) (up_le r.start)
    | inr e ↦ let same = low_same e in omega arith
  ]

  pub high_to : high_of f r k ≤ r.start + r.size
  high_to = elim (bool_cases (other_at f r.after k)) [
    | inl e ↦ rw (high_down e) (down_le (r.start + r.size))
    | inr e ↦ let same = high_same e in omega arith
  ]

  -- taken ranges of the other kind have no page above the low end
  left_pages : (j : ℕ) (q : Range) (l : Kind) → f j ≡ Some q → q.state ≡ state_of l → same_kind k l ≡ false → q.start + q.size ≤ r.start → (q.start + q.size - 1) / 1024 < low_of f r k / 1024
  left_pages j q l there is differ before = elim (option_cases r.before) [
    | inl none ↦ absurd (let begins = linked.first none in let some_q = (block.chain.linked j q there).some in omega arith)
    | inr some_p ↦
        let n = left some_p.0 some_p.1 in
        let touches = n.1 in
        let some_q = (block.chain.linked j q there).some in
        let some_n = (block.chain.linked n.0.slot n.0.range n.0.there).some in
        let up = λ (e : other_at f r.before k ≡ true). (let u : (q.start + q.size - 1) / 1024 < (r.start + 1023) / 1024 * 1024 / 1024 = page_up (q.start + q.size) r.start (omega arith) before in let same = ap (λ v. v / 1024) (low_up e) in let goal_is : (q.start + q.size - 1) / 1024 < low_of f r k / 1024 = rw same u in goal_is) in
        elim (cases_eq n.0.slot j) [
          | inl same ↦ up (other_is f r.before j q k (n.0.on ∙ ap Some same) there ∙ ap (λ s. is_other s k) is ∙ other_kind k l ∙ ap not differ)
          | inr apart ↦ elim (kinds k n.0.sort) [
            | inr other ↦ up (is_other_there r.before n.0 other)
            | inl alike ↦
                let none = both_apart whole nodes block.sound n.0.slot j n.0.range q n.0.sort l apart n.0.there there n.0.is is in
                elim (block.chain.apart n.0.slot j n.0.range q n.0.there there apart) [
                  | inl le ↦ absurd (omega arith)
                  | inr le ↦
                      let less = pages_of n.0.sort n.0.range.start n.0.range.size l q.start q.size none (third_kind k n.0.sort l alike differ) some_n some_q (page_le q.start (n.0.range.start + n.0.range.size - 1) (omega arith)) in
                      let from = low_from in
                      let more = page_le n.0.range.start (low_of f r k) (omega arith) in
                      omega arith
                ]
          ]
        ]
  ]

  right_pages : (j : ℕ) (q : Range) (l : Kind) → f j ≡ Some q → q.state ≡ state_of l → same_kind k l ≡ false → r.start + r.size ≤ q.start → 0 < high_of f r k → (high_of f r k - 1) / 1024 < q.start / 1024
  right_pages j q l there is differ after positive = elim (option_cases r.after) [
    | inl none ↦ absurd (let ends = linked.last none in let linked_q = block.chain.linked j q there in let some_q = linked_q.some in let inside = linked_q.inside in omega arith)
    | inr some_p ↦
        let n = right some_p.0 some_p.1 in
        let touches = n.1 in
        let some_q = (block.chain.linked j q there).some in
        let some_n = (block.chain.linked n.0.slot n.0.range n.0.there).some in
        let down = λ (e : other_at f r.after k ≡ true). (let same = high_down e in let u : ((r.start + r.size) / 1024 * 1024 - 1) / 1024 < q.start / 1024 = page_down (r.start + r.size) q.start (omega arith) after in let goal_is : (high_of f r k - 1) / 1024 < q.start / 1024 = rw same u in goal_is) in
        elim (cases_eq n.0.slot j) [
          | inl same ↦ down (other_is f r.after j q k (n.0.on ∙ ap Some same) there ∙ ap (λ s. is_other s k) is ∙ other_kind k l ∙ ap not differ)
          | inr apart ↦ elim (kinds k n.0.sort) [
            | inr other ↦ down (is_other_there r.after n.0 other)
            | inl alike ↦
                let none = conflict_turned l q.start q.size n.0.sort n.0.range.start n.0.range.size ∙ both_apart whole nodes block.sound n.0.slot j n.0.range q n.0.sort l apart n.0.there there n.0.is is in
                elim (block.chain.apart n.0.slot j n.0.range q n.0.there there apart) [
                  | inr le ↦ absurd (omega arith)
                  | inl le ↦
                      let less = pages_of l q.start q.size n.0.sort n.0.range.start n.0.range.size none (turned l n.0.sort (third_kind k n.0.sort l alike differ)) some_q some_n (page_le n.0.range.start (q.start + q.size - 1) (omega arith)) in
                      let to = high_to in
                      let more = page_le (high_of f r k - 1) (n.0.range.start + n.0.range.size - 1) (omega arith) in
                      omega arith
                ]
          ]
        ]
  ]
    where
      turned : (l m : Kind) → same_kind m l ≡ false → same_kind l m ≡ false
      turned l m e = same_kind_turned l m ∙ e

  -- ---- between the ends there is no conflict

  at_none : (s : ℕ) → low_of f r k ≤ s → s + b ≤ high_of f r k → (j : ℕ) → list_any (λ t. conflict k s b t.kind t.start t.size) (taken_here (f j)) ≡ false
  at_none s low high j = elim (seen_cases (f j)) [
    | inl none ↦ ap (λ v. list_any (λ t. conflict k s b t.kind t.start t.size) (taken_here v)) none
    | inr some_q ↦
        let q = some_q.0 in
        let there = some_q.1 in
        ap (λ v. list_any (λ t. conflict k s b t.kind t.start t.size) (taken_here v)) there
        ∙ elim (state_cases q.state) [
          | inl is_free ↦ ap (list_any (λ t. conflict k s b t.kind t.start t.size)) (free_takes_none q is_free)
          | inr other ↦
              let l = other.0 in
              let apart : slot ≡ j → ⊥ = λ e. taken_not_free l (sym other.1 ∙ ap (λ v. v.state) (some_same q r (sym there ∙ ap f (sym e) ∙ here)) ∙ free) in
              let some_q = (block.chain.linked j q there).some in
              let from = low_from in
              let to = high_to in
              one_any (λ t. conflict k s b t.kind t.start t.size) q l other.1
              ∙ elim (block.chain.apart slot j r q here there apart) [
                | inl le ↦ no_conflict k s b l q.start q.size (meet_none s b q.start q.size (inl (omega arith)))
                    (elim (kinds k l) [
                      | inl same ↦ inl same
                      | inr differ ↦
                          let less = right_pages j q l there other.1 differ le (omega arith) in
                          let more = page_le (s + b - 1) (high_of f r k - 1) (omega arith) in
                          inr (pages_none s b q.start q.size (inl (omega arith)))
                    ])
                | inr le ↦ no_conflict k s b l q.start q.size (meet_none s b q.start q.size (inr (omega arith)))
                    (elim (kinds k l) [
                      | inl same ↦ inl same
                      | inr differ ↦
                          let less = left_pages j q l there other.1 differ le in
                          let more = page_le (low_of f r k) s low in
                          inr (pages_none s b q.start q.size (inr (omega arith)))
                    ])
              ]
        ]
  ]
    where
      taken_not_free : (l : Kind) → state_of l ≡ state.Free → ⊥
      taken_not_free kind.Linear e = cc
      taken_not_free kind.Optimal e = cc

  pub fits_between : (align limit s : ℕ) → s % align ≡ 0 → low_of f r k ≤ s → s + b ≤ high_of f r k → s + b ≤ limit → fits (taken_in nodes) (record { size = b; align = align; kind = k }) 0 limit s ≡ true
  fits_between align limit s aligned low high within =
      let any = list_any (λ t. conflict k s b t.kind t.start t.size) (taken_in nodes) in
      and_from (s % align == 0 && nat_le 0 s && nat_le (s + b) limit) (not any)
      (and_from (s % align == 0 && nat_le 0 s) (nat_le (s + b) limit)
      (and_from (s % align == 0) (nat_le 0 s) (rw aligned refl) (le-leb 0 s (omega arith)))
      (le-leb (s + b) limit within))
      (ap not (any_none (λ t. conflict k s b t.kind t.start t.size) nodes (at_none s low high)))

  -- ---- and nowhere else does it fit

  pub record Between (align s : ℕ) : Type 0 where
    pub aligned : s % align ≡ 0
    pub low : low_of f r k ≤ s
    pub high : s + b ≤ high_of f r k

  none_at : (s : ℕ) (o : Option ℕ) (n : Neighbour f o) → list_any (λ t. conflict k s b t.kind t.start t.size) (taken_in nodes) ≡ false → conflict k s b n.sort n.range.start n.range.size ≡ false
  none_at s o n none =
      sym (ap (λ v. list_any (λ t. conflict k s b t.kind t.start t.size) (taken_here v)) n.there ∙ one_any (λ t. conflict k s b t.kind t.start t.size) n.range n.sort n.is)
      ∙ any_each (λ t. conflict k s b t.kind t.start t.size) nodes none n.slot

  ends_within : (limit s : ℕ) → limit ≤ whole → s + b ≤ limit → s < r.start + r.size → list_any (λ t. conflict k s b t.kind t.start t.size) (taken_in nodes) ≡ false → s + b ≤ r.start + r.size
  ends_within limit s inside within less none = elim (option_cases r.after) [
    | inl last ↦ let ends = linked.last last in omega arith
    | inr some_p ↦
        let n = right some_p.0 some_p.1 in
        let touches = n.1 in
        let some_n = (block.chain.linked n.0.slot n.0.range n.0.there).some in
        elim (leb_tells (s + b) (r.start + r.size)) [
          | inl one ↦ one.1
          | inr one ↦ let over = one.1 in absurd (meet_of k s b n.0.sort n.0.range.start n.0.range.size (none_at s r.after n.0 none) some some_n (omega arith) (omega arith))
        ]
  ]

  high_within : (s : ℕ) → r.start ≤ s → s + b ≤ r.start + r.size → list_any (λ t. conflict k s b t.kind t.start t.size) (taken_in nodes) ≡ false → s + b ≤ high_of f r k
  high_within s from to none = elim (bool_cases (other_at f r.after k)) [
    | inr e ↦ rw (high_same e) to
    | inl e ↦ elim (option_cases r.after) [
      | inl last ↦ absurd (let no_yes : false ≡ true = sym (ap (λ o. other_at f o k) last) ∙ e in cc)
      | inr some_p ↦
          let n = right some_p.0 some_p.1 in
          let touches = n.1 in
          let some_n = (block.chain.linked n.0.slot n.0.range n.0.there).some in
          let differ = differs r.after n.0 e in
          let turned = conflict_turned n.0.sort n.0.range.start n.0.range.size k s b ∙ none_at s r.after n.0 none in
          let less : (s + b - 1) / 1024 < n.0.range.start / 1024 = pages_of n.0.sort n.0.range.start n.0.range.size k s b turned (same_kind_turned n.0.sort k ∙ differ) some_n some (page_le s (n.0.range.start + n.0.range.size - 1) (omega arith)) in
          let page = ap (λ v. v / 1024) touches in
          rw (high_down e) (below_page (s + b) (r.start + r.size) (omega arith) (omega arith))
    ]
  ]

  low_within : (s : ℕ) → r.start ≤ s → s + b ≤ r.start + r.size → list_any (λ t. conflict k s b t.kind t.start t.size) (taken_in nodes) ≡ false → low_of f r k ≤ s
  low_within s from to none = elim (bool_cases (other_at f r.before k)) [
    | inr e ↦ rw (low_same e) from
    | inl e ↦ elim (option_cases r.before) [
      | inl first ↦ absurd (let no_yes : false ≡ true = sym (ap (λ o. other_at f o k) first) ∙ e in cc)
      | inr some_p ↦
          let n = left some_p.0 some_p.1 in
          let touches = n.1 in
          let some_n = (block.chain.linked n.0.slot n.0.range n.0.there).some in
          let differ = differs r.before n.0 e in
          let less : (n.0.range.start + n.0.range.size - 1) / 1024 < s / 1024 = pages_of k s b n.0.sort n.0.range.start n.0.range.size (none_at s r.before n.0 none) differ some some_n (page_le n.0.range.start (s + b - 1) (omega arith)) in
          let page : (r.start - 1) / 1024 < s / 1024 = rw (sym touches) less in
          rw (low_up e) (above_page r.start s (omega arith) page)
    ]
  ]

  pub fits_only_between : (align limit s : ℕ) → limit ≤ whole → r.start ≤ s → s < r.start + r.size → fits (taken_in nodes) (record { size = b; align = align; kind = k }) 0 limit s ≡ true → Between align s
  fits_only_between align limit s inside from to h =
      let any = list_any (λ t. conflict k s b t.kind t.start t.size) (taken_in nodes) in
      let three = and_parts (s % align == 0 && nat_le 0 s && nat_le (s + b) limit) (not any) h in
      let two = and_parts (s % align == 0 && nat_le 0 s) (nat_le (s + b) limit) three.0 in
      let one = and_parts (s % align == 0) (nat_le 0 s) two.0 in
      let none = not-true any three.1 in
      let ends = ends_within limit s inside (leb-true (s + b) limit two.1) to none in
      record {
        aligned = eqb-true (s % align) 0 one.0;
        low = low_within s from ends none;
        high = high_within s from ends none;
      }
