-- Points of tests: a command's place and batch are those of its number, and numbers rise, so no two are at one place.
use Rattle.std.proofs.Common.{ℕ, Bool, ◌≡◌, ◌<◌, ◌+◌, ◌*◌, ◌==◌, ◌&&◌, List, true, false, IsTrue, refl, ap, arith, inl, inr, ◌⊎◌}
use Rattle.std.specs.Prelude.{Contains}
use Rattle.std.proofs.lemmas.Bool.{and_parts}
use Rattle.std.proofs.lemmas.Map.Views.{exact_unsigned_eq}
use Rattle.vk_model.specs.declared.command.Cmd.{Cmd}
use Rattle.vk_model.specs.Trace.Point.{Point, Run}
use Rattle.vk_model.specs.Sync.Node.{Node, acts, with_acts, same_place}
use Rattle.vk_model.specs.Sync.Edge.{is_element}
use Rattle.vk_order.specs.Queries.{IsNew}
use Rattle.vk_order.proofs.ElementPlaces.{with_member, element_of}

-- the elements among the nodes are of commands with numbers below n
abbrev pub AreBelow : ℕ → List Node → Type 0
AreBelow n ns = (m : Node) → Contains ns m → IsTrue (is_element m.act) → m.point.place + 8 * m.point.batch < n

-- a command has number n
abbrev IsNumber : ℕ → Point → Type 0
IsNumber n p = (c : Cmd) → p.action ≡ Run c → p.place + 8 * p.batch ≡ n

differ : (p q : Point) (n : ℕ) → p.place + 8 * p.batch < n → q.place + 8 * q.batch ≡ n → same_place p q ≡ false
differ p q n lt e = go (same_place p q) refl
  where
    go : (b : Bool) → same_place p q ≡ b → same_place p q ≡ false
    go false f = f
    go true f =
        let parts = and_parts (p.entry == q.entry && p.batch == q.batch) (p.place == q.place) f in
        let batches = exact_unsigned_eq p.batch q.batch (and_parts (p.entry == q.entry) (p.batch == q.batch) parts.0).1 in
        let places = exact_unsigned_eq p.place q.place parts.1 in
        absurd (omega arith)

pub is_new : (p : Point) (n : ℕ) (ns : List Node) → AreBelow n ns → IsNumber n p → IsNew p ns
is_new p n ns below number c is m has element = differ m.point p n (below m has element) (number c is)

pub stays_below : (p : Point) (n : ℕ) (ns : List Node) → AreBelow n ns → IsNumber n p → AreBelow (n + 1) (with_acts p (acts p.action) ns)
stays_below p n ns below number m has element = elim (with_member p (acts p.action) ns m has) [
  | inl old ↦ (let lt = below m old element in omega arith)
  | inr new ↦ (let of = element_of p.action m.act new.1 element in
      let is = number of.0 of.1 in
      let batch = ap (λ (q : Point). q.batch) new.0 in
      let place = ap (λ (q : Point). q.place) new.0 in
      omega arith)
]
