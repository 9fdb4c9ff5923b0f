-- The rows of a point can come next.
use Rattle.std.proofs.Common.{◌≡◌, ℕ, zero, suc, ◌+◌, ◌<◌, List, [], ◌∷◌, length, map, Bool, true, false, ◌&&◌, Some, refl, ap, sym, ◌∙◌, arith}
use Rattle.std.specs.Prelude.{Contains, slice_get, option_map}
use Rattle.std.specs.List.{enumerate_from}
use Rattle.std.proofs.lemmas.Option.{slice_get-map}
use Rattle.std.proofs.Math.Bool.{and-false}
use Rattle.vk_model.specs.declared.command.Cmd.{Cmd}
use Rattle.vk_model.specs.declared.command.Cmd.TheVariants as cmd
use Rattle.vk_model.specs.declared.command.Dependency.{Dependency}
use Rattle.vk_model.specs.declared.command.Element.{Element}
use Rattle.vk_model.specs.Trace.Point as spec
use Rattle.vk_model.specs.Sync.Node.{Node, Act, Role, Hosts, Waits, Signals, Runs, Depends, Barrier, SetOf, AwaitOf, acts, command_acts, same_place}
use Rattle.vk_model.specs.Sync.Edge.{edge, siblings, is_element, waited_by, pairs}
use Rattle.vk_order.specs.declared.acts.Row.{Row}
use Rattle.vk_model.specs.declared.point.Point.{Point}
use Rattle.vk_model.specs.Trace.PointViews.{action_of, point_of}
use Rattle.vk_order.specs.NodeViews.{act_of, node_of}
use Rattle.vk_order.specs.Queries.{IsNew}
use Rattle.vk_order.specs.Inner.Tallies.{CanFollow}
use Rattle.vk_model.proofs.Lists.Members.{place_has}
use Rattle.vk_order.proofs.Arrange.{holds-false}
use Rattle.vk_order.proofs.ElementPlaces.{element_of, same_itself}
use Rattle.vk_order.proofs.PlaceLemmas.{apart_from}
use Rattle.vk_model.proofs.Lists.Items.{some_same}

-- ---- acts of one point

-- Two acts of a command: elements of which neither leads to the other.
record AreQuiet (a b : Act) : Type 0 where
  pub first : is_element a ≡ true
  pub second : is_element b ≡ true
  pub unpaired : pairs a b ≡ false

single : (x : Act) (i j : ℕ) (a b : Act) → i < j → slice_get (x ∷ []) i ≡ Some a → slice_get (x ∷ []) j ≡ Some b → AreQuiet a b
single x i zero a b lt e f = absurd (let bad : i < 0 = lt in omega arith)
single x i (suc j) a b lt e f = absurd cc

barrier_get : (es : List Element) (i : ℕ) (a : Act) → slice_get (map (Depends Barrier) es) i ≡ Some a → (e : Element) × (a ≡ Depends Barrier e)
barrier_get [] i a e = absurd cc
barrier_get (x ∷ es) zero a e = (x, cc)
barrier_get (x ∷ es) (suc i) a e = barrier_get es i a e

event_get : (role : ℕ → Role) (ds : List Dependency) (k i : ℕ) (a : Act) → slice_get (map (λ p. Depends (role p.0) (Rattle.vk_model.specs.declared.command.Element.TheVariants.Memory p.1)) (enumerate_from k ds)) i ≡ Some a → (m : ℕ) × (e : Element) × (a ≡ Depends (role m) e)
event_get role [] k i a e = absurd cc
event_get role (d ∷ ds) k zero a e = (k, Rattle.vk_model.specs.declared.command.Element.TheVariants.Memory d, cc)
event_get role (d ∷ ds) k (suc i) a e = event_get role ds (k + 1) i a e

two_of_barrier : (a b : Act) (x y : Element) → a ≡ Depends Barrier x → b ≡ Depends Barrier y → AreQuiet a b
two_of_barrier a b x y e f = record { first = ap is_element e; second = ap is_element f; unpaired = ap (λ (t : Act). pairs t b) e }

two_of_set : (a b : Act) (v m n : ℕ) (x y : Element) → a ≡ Depends (SetOf v m) x → b ≡ Depends (SetOf v n) y → AreQuiet a b
two_of_set a b v m n x y e f = record { first = ap is_element e; second = ap is_element f; unpaired = ap (λ (t : Act). pairs t b) e ∙ ap (pairs (Depends (SetOf v m) x)) f }

two_of_await : (a b : Act) (v m n : ℕ) (x y : Element) → a ≡ Depends (AwaitOf v m) x → b ≡ Depends (AwaitOf v n) y → AreQuiet a b
two_of_await a b v m n x y e f = record { first = ap is_element e; second = ap is_element f; unpaired = ap (λ (t : Act). pairs t b) e }

of_command : (c : Cmd) (i j : ℕ) (a b : Act) → i < j → slice_get (command_acts c) i ≡ Some a → slice_get (command_acts c) j ≡ Some b → AreQuiet a b
of_command (cmd.Barrier es) i j a b lt e f = let x = barrier_get es i a e in let y = barrier_get es j b f in two_of_barrier a b x.0 y.0 x.1 y.1
of_command (cmd.Set v ms) i j a b lt e f = let x = event_get (SetOf v) ms 0 i a e in let y = event_get (SetOf v) ms 0 j b f in two_of_set a b v x.0 y.0 x.1 y.1 x.2 y.2
of_command (cmd.Await v ms) i j a b lt e f = let x = event_get (AwaitOf v) ms 0 i a e in let y = event_get (AwaitOf v) ms 0 j b f in two_of_await a b v x.0 y.0 x.1 y.1 x.2 y.2
of_command (cmd.Fill b o s w) i j a c lt e f = single (Runs (cmd.Fill b o s w)) i j a c lt e f
of_command (cmd.Update b o s) i j a c lt e f = single (Runs (cmd.Update b o s)) i j a c lt e f
of_command (cmd.Copy s d r) i j a c lt e f = single (Runs (cmd.Copy s d r)) i j a c lt e f
of_command (cmd.Clear m l k r) i j a c lt e f = single (Runs (cmd.Clear m l k r)) i j a c lt e f
of_command (cmd.CopyIn b m l r) i j a c lt e f = single (Runs (cmd.CopyIn b m l r)) i j a c lt e f
of_command (cmd.CopyOut m l b r) i j a c lt e f = single (Runs (cmd.CopyOut m l b r)) i j a c lt e f
of_command (cmd.CopyImage s k d l r) i j a c lt e f = single (Runs (cmd.CopyImage s k d l r)) i j a c lt e f

of_action : (d : spec.Action) (i j : ℕ) (a b : Act) → i < j → slice_get (acts d) i ≡ Some a → slice_get (acts d) j ≡ Some b → AreQuiet a b
of_action (spec.Host x) i j a b lt e f = single (Hosts x) i j a b lt e f
of_action (spec.Wait s) i j a b lt e f = single (Waits s) i j a b lt e f
of_action (spec.Signal s) i j a b lt e f = single (Signals s) i j a b lt e f
of_action (spec.Run c) i j a b lt e f = of_command c i j a b lt e f

-- ---- no edge between two of them

element_waits : (a : Act) → is_element a ≡ true → waited_by a ≡ []
element_waits (Depends r e) h = refl
element_waits (Hosts x) h = absurd cc
element_waits (Waits s) h = absurd cc
element_waits (Signals s) h = absurd cc
element_waits (Runs c) h = absurd cc

no_links : (ns : List Node) (i j : ℕ) (p : spec.Point) (a b : Act) → AreQuiet a b → edge ns (record { number = i; point = p; act = a }) (record { number = j; point = p; act = b }) ≡ false
unfolding edge
no_links ns i j p (Depends r x) (Depends s y) quiet = simp (same_itself p, quiet.unpaired, and-false, holds-false)
no_links ns i j p (Hosts x) b quiet = absurd (let h = quiet.first in cc)
no_links ns i j p (Waits x) b quiet = absurd (let h = quiet.first in cc)
no_links ns i j p (Signals x) b quiet = absurd (let h = quiet.first in cc)
no_links ns i j p (Runs x) b quiet = absurd (let h = quiet.first in cc)
no_links ns i j p (Depends r x) (Hosts y) quiet = absurd (let h = quiet.second in cc)
no_links ns i j p (Depends r x) (Waits y) quiet = absurd (let h = quiet.second in cc)
no_links ns i j p (Depends r x) (Signals y) quiet = absurd (let h = quiet.second in cc)
no_links ns i j p (Depends r x) (Runs y) quiet = absurd (let h = quiet.second in cc)

-- ---- the rows of a point

module _ (ns : List Node) (fresh : List Row) (p : Point) (points : (i : ℕ) (r : Row) → slice_get fresh i ≡ Some r → r.point ≡ p) (are : map (λ r. act_of r.act) fresh ≡ acts (action_of p.action))
    (new : IsNew (point_of p) ns) where
  act_at : (i : ℕ) (r : Row) → slice_get fresh i ≡ Some r → slice_get (acts (action_of p.action)) i ≡ Some (act_of r.act)
  act_at i r e = ap (λ (l : List Act). slice_get l i) (sym are) ∙ slice_get-map (λ r. act_of r.act) fresh i ∙ ap (option_map (λ r. act_of r.act)) e

  apart : (i : ℕ) (r : Row) → slice_get fresh i ≡ Some r → (k : Node) → Contains ns k → siblings k (node_of (length ns + i) r) ≡ false
  apart i r e k c = go (is_element k.act) (is_element (act_of r.act)) refl refl
    where
      go : (b d : Bool) → is_element k.act ≡ b → is_element (act_of r.act) ≡ d → (b && d && same_place k.point (point_of r.point)) ≡ false
      go false d f g = refl
      go true false f g = refl
      go true true f g =
          let of = element_of (action_of p.action) (act_of r.act) (place_has (acts (action_of p.action)) i (act_of r.act) (act_at i r e)) g in
          ap (λ (x : Point). same_place k.point (point_of x)) (points i r e) ∙ new of.0 of.1 k c f

  quiet : (i j : ℕ) (q r : Row) → slice_get fresh i ≡ Some q → slice_get fresh j ≡ Some r → i < j → (all : List Node) → edge all (node_of (length ns + i) q) (node_of (length ns + j) r) ≡ false
  quiet i j q r e f lt all =
      let both = of_action (action_of p.action) i j (act_of q.act) (act_of r.act) lt (act_at i q e) (act_at j r f) in
      ap (λ (x : Point). edge all (record { number = length ns + i; point = point_of x; act = act_of q.act }) (record { number = length ns + j; point = point_of r.point; act = act_of r.act })) (points i q e)
      ∙ ap (λ (x : Point). edge all (record { number = length ns + i; point = point_of p; act = act_of q.act }) (record { number = length ns + j; point = point_of x; act = act_of r.act })) (points j r f)
      ∙ no_links all (length ns + i) (length ns + j) (point_of p) (act_of q.act) (act_of r.act) both

  first_act : (l : List Act) (j : ℕ) (b : Act) → 0 < j → slice_get l j ≡ Some b → (a : Act) × (slice_get l 0 ≡ Some a)
  first_act [] j b lt e = absurd cc
  first_act (a ∷ l) j b lt e = (a, refl)

  later : (j : ℕ) (r : Row) → slice_get fresh j ≡ Some r → 0 < j → waited_by (act_of r.act) ≡ []
  later j r e lt =
      let first = first_act (acts (action_of p.action)) j (act_of r.act) lt (act_at j r e) in
      element_waits (act_of r.act) (of_action (action_of p.action) 0 j first.0 (act_of r.act) lt first.1 (act_at j r e)).second

  pub can_follow : CanFollow ns fresh
  can_follow = record { apart = apart; quiet = quiet; later = later }

-- a row that is the only one of its point
pub one_follows : (ns : List Node) (row : Row) → acts (action_of row.point.action) ≡ act_of row.act ∷ [] → IsNew (point_of row.point) ns → CanFollow ns (row ∷ [])
one_follows ns row are new = can_follow ns (row ∷ []) row.point points (sym are) new
  where
    points : (i : ℕ) (r : Row) → slice_get (row ∷ []) i ≡ Some r → r.point ≡ row.point
    points zero r e = ap (λ (x : Row). x.point) (sym (some_same row r e))
    points (suc i) r e = absurd cc

-- a row that is no element, alone
pub plain_follows : (ns : List Node) (row : Row) → is_element (act_of row.act) ≡ false → CanFollow ns (row ∷ [])
plain_follows ns row plain = record { apart = apart; quiet = quiet; later = later }
  where
    apart : (i : ℕ) (r : Row) → slice_get (row ∷ []) i ≡ Some r → (k : Node) → Contains ns k → siblings k (node_of (length ns + i) r) ≡ false
    apart zero r e k there =
        let same : row ≡ r = cc in
        let none = ap (λ (x : Row). is_element (act_of x.act)) (sym same) ∙ plain in
        apart_from ns (node_of (length ns + 0) r) none k there
    apart (suc i) r e k there = absurd cc

    quiet : (i j : ℕ) (q r : Row) → slice_get (row ∷ []) i ≡ Some q → slice_get (row ∷ []) j ≡ Some r → i < j → (all : List Node) → edge all (node_of (length ns + i) q) (node_of (length ns + j) r) ≡ false
    quiet i zero q r e f lt all = absurd (omega arith)
    quiet i (suc j) q r e f lt all = absurd cc

    later : (j : ℕ) (r : Row) → slice_get (row ∷ []) j ≡ Some r → 0 < j → waited_by (act_of r.act) ≡ []
    later zero r e lt = absurd (omega arith)
    later (suc j) r e lt = absurd cc
