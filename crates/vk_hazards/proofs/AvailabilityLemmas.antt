-- What makes a write available.
use Rattle.std.proofs.Common.{◌≡◌, inl, inr, ⊎_elim, ℕ, ◌+◌, ◌<◌, ◌≤◌, List, [], ◌∷◌, ◌++◌, length, Bool, true, false, not, ◌&&◌, ◌||◌, IsTrue, Some, refl, sym, ap, ◌∙◌, subst, arith}
use Rattle.std.specs.Prelude.{nat_lt, Contains}
use Rattle.std.proofs.lemmas.Bool.{lt-ltb, ltb-true, le-ltb, eq-eqb, eqb-true, and_parts, and_from, or_left, or_right, or_cases, cases_lt, false_from_ne_true}
use Rattle.std.proofs.lemmas.List.Elements.{Contains-append_left, Contains-append_right, Contains-append_cases}
use Rattle.vk_model.specs.Trace.Point.{Past}
use Rattle.vk_model.specs.World.Bytes.{Byte}
use Rattle.vk_model.specs.Sync.Node.{Node, Act, Hosts, Waits, Signals, Runs, Depends, nodes, same_node}
use Rattle.vk_model.specs.Sync.Edge.{edge, is_host, is_submit}
use Rattle.vk_model.specs.Sync.Before.{before}
use Rattle.vk_model.specs.Sync.Seen.{available_by, passes, flushes}
use Rattle.vk_model.proofs.Lists.Members.{member_passes, some_member, contains-head, only_one}
use Rattle.vk_model.proofs.Lists.Truths.{clash, bool_same}
use Rattle.vk_model.proofs.Sync.Numbers.{numbered, number_below, unique}
use Rattle.vk_model.proofs.Sync.Paths.{leads_on}
use Rattle.vk_model.proofs.Sync.HostActs.{submit_host, flush_host, same_available}
use Rattle.vk_order.specs.Lines.{line_of, class_of, is_of_sets}
use Rattle.vk_order.specs.Prefixes.{LinePrefix}
use Rattle.vk_order.specs.Edges as edges
use Rattle.vk_order.specs.Edges.{made_available_by}
use Rattle.vk_hazards.specs.declared.availability.First.{First}
use Rattle.vk_hazards.specs.Links.{cached, needs_flush, flushes_after, makes_available, is_available_at, HasNone, IsFirstNode}
use Rattle.vk_hazards.specs.Inner.Availability.{IsAvailableFrom, AreFirsts, MakesAvailable, IsListed, Represents}
use Rattle.vk_hazards.proofs.EdgeLemmas.{edge_from_command, host_before, line_is}

module _ (past : Past) (w : Node) (cw : Contains (nodes past) w) (b : Byte) where
  abbrev all : List Node
  all = nodes past

  -- ---- from where on submits do

  -- what is asked of a submit
  abbrev pub is_asked : Node → Bool
  is_asked p = before all w p && (not (cached past b) || passes (cached past) all (λ f. flushes f b) w p)

  pub from_write : needs_flush past w b ≡ false → IsAvailableFrom past w b w.number
  from_write none p cp hw sp =
      let plain : cached past b ≡ false = ap (λ (t : Bool). t && cached past b) (sym hw) ∙ none in
      bool_same (nat_lt w.number p.number) (is_asked p)
      (λ h. and_from (before all w p) _ (host_before past w p cw cp hw (submit_host p.act sp) (ltb-true w.number p.number h)) (rw plain refl))
      (λ h. lt-ltb w.number p.number (leads_on all w p (and_parts (before all w p) _ h).0))

  -- a flush that a submit is after
  pub flushed : (p : Node) → needs_flush past w b ≡ true → is_asked p ≡ true → (f : Node) × Contains all f × IsTrue (flushes_after past w b f) × (f.number < p.number)
  flushed p needed h =
      let hit : cached past b ≡ true = (and_parts (is_host w.act) (cached past b) needed).1 in
      let passed : passes (cached past) all (λ f. flushes f b) w p ≡ true = ap (λ (t : Bool). not t || passes (cached past) all (λ f. flushes f b) w p) (sym hit) ∙ (and_parts (before all w p) _ h).1 in
      let f = some_member (λ f. flushes f.act b && before all w f && before all f p) all passed in
      let one = and_parts (flushes f.0.act b && before all w f.0) (before all f.0 p) f.2 in
      (f.0, f.1, and_from (needs_flush past w b) _ needed one.0, leads_on all f.0 p one.1)

  pub from_flush : (f : Node) → IsFirstNode past (flushes_after past w b) f → IsAvailableFrom past w b f.number
  from_flush f first p cp hw sp =
      let parts = and_parts (needs_flush past w b) (flushes f.act b && before all w f) first.passes in
      let two = and_parts (flushes f.act b) (before all w f) parts.1 in
      let hp = submit_host p.act sp in
      let hf = flush_host f.act b two.0 in
      let up = leads_on all w f two.1 in
      bool_same (nat_lt f.number p.number) (is_asked p)
      (λ h.
      let lt = ltb-true f.number p.number h in
      and_from (before all w p) _ (host_before past w p cw cp hw hp (omega arith))
      (or_right (not (cached past b)) (passes (cached past) all (λ f. flushes f b) w p)
      (member_passes (λ f. flushes f.act b && before all w f && before all f p) all f first.there
      (and_from (flushes f.act b && before all w f) (before all f p) parts.1 (host_before past f p first.there cp hf hp lt)))))
      (λ h.
      let g = flushed p parts.0 h in
      let lt = g.3 in
      ⊎_elim
      (λ (low : g.0.number < f.number). clash g.2 (first.first g.0 g.1 low))
      (λ (high : f.number ≤ g.0.number). lt-ltb f.number p.number (omega arith))
      (cases_lt g.0.number f.number))

  pub from_nowhere : needs_flush past w b ≡ true → HasNone past (flushes_after past w b) → (count : ℕ) → count ≡ length all → IsAvailableFrom past w b count
  from_nowhere needed none count is p cp hw sp =
      le-ltb count p.number (let lt = number_below all (numbered past) p cp in omega arith)
      ∙ sym (false_from_ne_true (is_asked p) (λ h. let g = flushed p needed h in clash g.2 (none g.0 g.1)))

  -- ---- which nodes do

  module _ (from : ℕ) (is_from : IsAvailableFrom past w b from) where
    pub made_available_same : (a : Act) → w.act ≡ a → (p : Node) → Contains all p → made_available_by w a from b p ≡ available_by (cached past) all w a b p
    made_available_same (Runs c) is p cp =
        ap (λ (t : Bool). t && edges.makes_available b p) (sym (edge_from_command all w p c is)) ∙ ap (λ (t : Bool). edge all w p && t) (same_available (cached past) all p b p.act)
    made_available_same (Hosts x) is p cp = go (is_submit p.act) refl
      where
        go : (t : Bool) → is_submit p.act ≡ t → (is_submit p.act && nat_lt from p.number) ≡ (is_submit p.act && before all w p && (not (cached past b) || passes (cached past) all (λ f. flushes f b) w p))
        go false e = rw e refl
        go true e = rw e (is_from p cp (ap is_host is) e)
    made_available_same (Depends r e) is p cp = refl
    made_available_same (Waits s) is p cp = refl
    made_available_same (Signals s) is p cp = refl

  -- ---- where the write is available

  same_itself : (n : Node) → same_node n n ≡ true
  same_itself n = eq-eqb n.number n.number refl

  pub available_here : (n : Node) → Contains all n → makes_available past w b n ≡ true → is_available_at past w b n ≡ true
  available_here n cn h = member_passes (λ p. makes_available past w b p && (same_node p n || before all p n)) all n cn (and_from (makes_available past w b n) _ h (or_left (same_node n n) (before all n n) (same_itself n)))

  module _ (firsts : List First) (are : AreFirsts past w b firsts) (n : Node) (cn : Contains all n) where
    pub available_after : (f : First) → Contains firsts f → ((m : Node) → Contains all m → m.number ≡ f.number → before all m n ≡ true) → is_available_at past w b n ≡ true
    available_after f has later =
        let s = are.each f has in
        member_passes (λ p. makes_available past w b p && (same_node p n || before all p n)) all s.0 s.1.there (and_from (makes_available past w b s.0) _ s.1.is_made_available_at (or_right (same_node s.0 n) (before all s.0 n) (later s.0 s.1.there s.1.number)))

    pub unavailable : LinePrefix → makes_available past w b n ≡ false → ((f : First) → Contains firsts f → (m : Node) → Contains all m → m.number ≡ f.number → before all m n ≡ false) → is_available_at past w b n ≡ false
    unavailable prefix other none = false_from_ne_true (is_available_at past w b n) (λ h.
        let p = some_member (λ p. makes_available past w b p && (same_node p n || before all p n)) all h in
        let parts = and_parts (makes_available past w b p.0) (same_node p.0 n || before all p.0 n) p.2 in
        ⊎_elim
        (λ (same : same_node p.0 n ≡ true). clash (ap (makes_available past w b) (sym (unique all (numbered past) p.0 n p.1 cn (eqb-true p.0.number n.number same))) ∙ parts.0) other)
        (λ (later : before all p.0 n ≡ true).
        let f = are.all p.0 p.1 parts.0 in
        let s = f.2.1 in
        clash (leads p.0 p.1 later f.2.0 s.there f.2.2) (none f.0 f.1 f.2.0 s.there s.number))
        (or_cases (same_node p.0 n) (before all p.0 n) parts.1))
      where
        leads : (p : Node) → Contains all p → before all p n ≡ true → (m : Node) → Contains all m → Represents m p → before all m n ≡ true
        leads p cp later m cm (inl same) = ap (λ (k : Node). before all k n) same ∙ later
        leads p cp later m cm (inr stands) = prefix all stands.1.0 m p n (numbered past) (λ e. are.placed) cm cp cn (stands.0 ∙ stands.1.1) stands.1.1 stands.2 later

    pub available_same : LinePrefix → (after : Bool) → (after ≡ true → (f : First) × Contains firsts f × ((m : Node) → Contains all m → m.number ≡ f.number → before all m n ≡ true))
        → (after ≡ false → (f : First) → Contains firsts f → (m : Node) → Contains all m → m.number ≡ f.number → before all m n ≡ false) → makes_available past w b n ≡ false → after ≡ is_available_at past w b n
    available_same prefix true on off other = let f = on refl in sym (available_after f.0 f.1 f.2)
    available_same prefix false on off other = sym (unavailable prefix other (off refl))

  -- ---- flushes

  pub no_early_flush : (n : Node) → Contains all n → n.number < w.number → flushes_after past w b n ≡ false
  no_early_flush n cn lt = false_from_ne_true (flushes_after past w b n) (λ h.
      let later = leads_on all w n (and_parts (flushes n.act b) (before all w n) (and_parts (needs_flush past w b) _ h).1).1 in
      absurd (omega arith))

  pub flush_same : needs_flush past w b ≡ true → (n : Node) → Contains all n → (nat_lt w.number n.number && flushes n.act b) ≡ flushes_after past w b n
  flush_same needed n cn = bool_same (nat_lt w.number n.number && flushes n.act b) (flushes_after past w b n)
      (λ h.
      let parts = and_parts (nat_lt w.number n.number) (flushes n.act b) h in
      and_from (needs_flush past w b) _ needed (and_from (flushes n.act b) (before all w n) parts.1
      (host_before past w n cw cn (and_parts (is_host w.act) (cached past b) needed).0 (flush_host n.act b parts.1) (ltb-true w.number n.number parts.0))))
      (λ h.
      let parts = and_parts (flushes n.act b) (before all w n) (and_parts (needs_flush past w b) _ h).1 in
      and_from (nat_lt w.number n.number) (flushes n.act b) (lt-ltb w.number n.number (leads_on all w n parts.1)) parts.0)

-- ---- the first of each line

module _ (past : Past) (w : Node) (b : Byte) where
  abbrev pub Each : List First → Type 0
  Each firsts = (f : First) → Contains firsts f → (n : Node) × MakesAvailable past w b f n

  abbrev pub AllBelow : List First → ℕ → Type 0
  AllBelow firsts k = (n : Node) → Contains (nodes past) n → n.number < k → IsTrue (makes_available past w b n) → (f : First) × Contains firsts f × ((m : Node) × MakesAvailable past w b f m × Represents m n)

  module _ (firsts : List First) where
    pub each_more : (own : First) (n : Node) → MakesAvailable past w b own n → Each firsts → Each (firsts ++ own ∷ [])
    each_more own n with_node each f has = ⊎_elim
        (λ (old : Contains firsts f). each f old)
        (λ (new : Contains (own ∷ []) f). subst (λ (f : First). (n : Node) × MakesAvailable past w b f n) (only_one own f new) (n, with_node))
        (Contains-append_cases firsts (own ∷ []) f has)

    pub all_more : (k : ℕ) (own : First) (n : Node) → MakesAvailable past w b own n → n.number ≡ k → AllBelow firsts k → AllBelow (firsts ++ own ∷ []) (k + 1)
    all_more k own n with_node at all m cm lt h = ⊎_elim
        (λ (low : m.number < k). let f = all m cm low h in (f.0, Contains-append_left firsts (own ∷ []) f.0 f.1, f.2))
        (λ (high : k ≤ m.number).
        (own, Contains-append_right firsts (own ∷ []) own (contains-head own []), (n, with_node, inl (unique (nodes past) (numbered past) n m with_node.there cm (omega arith)))))
        (cases_lt m.number k)

    pub all_listed : (k : ℕ) → ((f : First) → Contains firsts f → f.number < k) → Each firsts → ((n : Node) → Contains (nodes past) n → n.number ≡ k → IsTrue (makes_available past w b n) → IsListed firsts (class_of n)) → AllBelow firsts k → AllBelow firsts (k + 1)
    all_listed k within each listed all n cn lt h = ⊎_elim
        (λ (low : n.number < k). all n cn low h)
        (λ (high : k ≤ n.number).
        let own = listed n cn (omega arith) h in
        let m = each own.first own.there in
        let same : class_of m.0 ≡ class_of n = m.1.line ∙ own.same in
        let known : line_of n ≡ Some (class_of n) = line_is n own.of_line in
        let other : line_of m.0 ≡ Some (class_of m.0) = line_is m.0 (ap is_of_sets same ∙ own.of_line) in
        let less = within own.first own.there in
        let at = m.1.number in
        (own.first, own.there, (m.0, m.1, inr (other ∙ ap Some same ∙ sym known, (class_of n, known), omega arith))))
        (cases_lt n.number k)

  pub available_within : (firsts : List First) → Each firsts → (f : First) → Contains firsts f → f.number < length (nodes past)
  available_within firsts each f has = let s = each f has in let lt = number_below (nodes past) (numbered past) s.0 s.1.there in let at = s.1.number in omega arith
