-- The elements of one command are together, where no two commands are at one place. Other crates cite it.
use Rattle.std.proofs.Common.{◌≡◌, ◌<◌, List, [], ◌∷◌, true, false, ◌&&◌, ◌≤◌, length, IsTrue, refl, ap, sym, ◌∙◌, subst, arith, inl, inr, ◌⊎◌}
use Rattle.std.specs.Prelude.{Contains}
use Rattle.std.proofs.lemmas.Bool.{eq-eqb, and_parts, and_from}
use Rattle.vk_model.specs.declared.command.Cmd.{Cmd}
use Rattle.vk_model.specs.Trace.Point.{Past, Point, Action, Host, Wait, Run, Signal}
use Rattle.vk_model.specs.Rules.Fault.{Comes, newest, older}
use Rattle.vk_model.specs.Sync.Node.{Node, Act, acts, nodes, with_acts, same_place}
use Rattle.vk_model.specs.Sync.Edge.{is_element, siblings}
use Rattle.vk_model.proofs.Lists.Members.{none_in, contains-cons, contains-head, contains-tail}
use Rattle.vk_model.proofs.Lists.Truths.{clash}
use Rattle.vk_model.proofs.Sync.Numbers.{number_below, numbered}
use Rattle.vk_order.specs.Lines.{IsPlaced}
use Rattle.vk_order.specs.Places.{IsElsewhere, IsApart}

-- ---- nodes

-- a node that is there once acts are added is an older one, or is of one of the acts
pub with_member : (p : Point) (more : List Act) (ns : List Node) (n : Node) → Contains (with_acts p more ns) n → Contains ns n ⊎ ((n.point ≡ p) × Contains more n.act × (length ns ≤ n.number))
with_member p [] ns n c = inl c
with_member p (a ∷ more) ns n c = elim (with_member p more (record { number = length ns; point = p; act = a } ∷ ns) n c) [
  | inl early ↦ elim (contains-cons (record { number = length ns; point = p; act = a }) ns n early) [
    | inl same ↦ let k : length ns ≡ n.number = ap (λ (m : Node). m.number) same in inr (ap (λ (m : Node). m.point) (sym same), subst (λ (b : Act). Contains (a ∷ more) b) (ap (λ (m : Node). m.act) same) (contains-head a more), omega arith)
    | inr there ↦ inl there
  ]
  | inr late ↦ let le = late.2 in inr (late.0, contains-tail a more n.act late.1, omega arith)
]

-- a node's point is in the past
pub member_point : (past : Past) (m : Node) → Contains (nodes past) m → (before : Past) × Comes past before m.point × Contains (acts m.point.action) m.act
member_point [] m c = absurd (none_in m c)
member_point (p ∷ past) m c = elim (with_member p (acts p.action) (nodes past) m c) [
  | inl old ↦ (let found = member_point past m old in (found.0, older found.1, found.2))
  | inr new ↦ (past, subst (λ (q : Point). Comes (p ∷ past) past q) (sym new.0) newest, subst (λ (q : Point). Contains (acts q.action) m.act) (sym new.0) new.1)
]

-- elements are of commands
pub element_of : (d : Action) (a : Act) → Contains (acts d) a → is_element a ≡ true → (c : Cmd) × (d ≡ Run c)
element_of (Run c) a at is = (c, refl)
element_of (Host x) a at is = elim (contains-cons _ [] a at) [ inl same ↦ absurd (let bad : is_element a ≡ false = ap is_element (sym same) in cc) | inr later ↦ absurd (none_in a later) ]
element_of (Wait s) a at is = elim (contains-cons _ [] a at) [ inl same ↦ absurd (let bad : is_element a ≡ false = ap is_element (sym same) in cc) | inr later ↦ absurd (none_in a later) ]
element_of (Signal s) a at is = elim (contains-cons _ [] a at) [ inl same ↦ absurd (let bad : is_element a ≡ false = ap is_element (sym same) in cc) | inr later ↦ absurd (none_in a later) ]

-- an element of an older point is at another place than a command
pub elsewhere : (past : Past) (p : Point) (c : Cmd) → p.action ≡ Run c → IsElsewhere p past → (m : Node) → Contains (nodes past) m → is_element m.act ≡ true → same_place m.point p ≡ false
elsewhere past p c is away m at element =
    let found = member_point past m at in
    let of = element_of m.point.action m.act found.2 element in
    away c is found.0 m.point of.0 found.1 of.1

-- ---- elements of one command are together

pub same_itself : (p : Point) → same_place p p ≡ true
same_itself p = rw (eq-eqb p.entry p.entry refl, eq-eqb p.batch p.batch refl, eq-eqb p.place p.place refl) refl

module _ (p : Point) (past : Past) (away : IsElsewhere p past) (x y z : Node) (xy : x.number < y.number) (yz : y.number < z.number) (element : IsTrue (is_element y.act)) (kin : IsTrue (siblings x z)) where
  abbrev IsNew : Node → Type 0
  IsNew n = (n.point ≡ p) × Contains (acts p.action) n.act × (length (nodes past) ≤ n.number)

  low : (n : Node) → Contains (nodes past) n → n.number < length (nodes past)
  low n c = number_below (nodes past) (numbered past) n c

  newest_together : Contains (nodes past) x ⊎ IsNew x → Contains (nodes past) y ⊎ IsNew y → Contains (nodes past) z ⊎ IsNew z
      → (Contains (nodes past) x → Contains (nodes past) y → Contains (nodes past) z → IsTrue (siblings y z)) → IsTrue (siblings y z)
  newest_together (inl a) (inl b) (inl c) rest = rest a b c
  newest_together a (inr b) (inl c) rest = absurd (let lt = low z c in let le = b.2 in omega arith)
  newest_together (inr a) b (inl c) rest = absurd (let lt = low z c in let le = a.2 in omega arith)
  newest_together (inr a) (inl b) c rest = absurd (let lt = low y b in let le = a.2 in omega arith)
  newest_together (inl a) b (inr c) rest =
      let parts = and_parts (is_element x.act && is_element z.act) (same_place x.point z.point) kin in
      let both = and_parts (is_element x.act) (is_element z.act) parts.0 in
      let of = element_of p.action z.act c.1 both.1 in
      clash (ap (λ (q : Point). same_place x.point q) (sym c.0) ∙ parts.1) (elsewhere past p of.0 of.1 away x a both.0)
  newest_together (inr a) (inr b) (inr c) rest =
      let parts = and_parts (is_element x.act && is_element z.act) (same_place x.point z.point) kin in
      let both = and_parts (is_element x.act) (is_element z.act) parts.0 in
      let one : same_place y.point z.point ≡ true = rw (b.0, c.0) (same_itself p) in
      and_from (is_element y.act && is_element z.act) (same_place y.point z.point) (and_from (is_element y.act) (is_element z.act) element both.1) one

pub placed : (past : Past) → IsApart past → IsPlaced (nodes past)
placed [] apart = record { together = λ x y z cx cy cz xy yz element kin. absurd (none_in x cx) }
placed (p ∷ past) apart =
    let rest = placed past apart.1 in
    record {
      together = λ x y z cx cy cz xy yz element kin.
          newest_together p past apart.0 x y z xy yz element kin
          (with_member p (acts p.action) (nodes past) x cx) (with_member p (acts p.action) (nodes past) y cy) (with_member p (acts p.action) (nodes past) z cz)
          (λ a b c. rest.together x y z a b c xy yz element kin);
    }
