-- How often the commands that wait name a resource, as points come.
use Rattle.std.proofs.Common.{◌≡◌, ◌⊎◌, inl, inr, ⊎_elim, zero, suc, ◌<◌, ◌≤◌, ◌+◌, ◌-◌, ℕ, List, [], ◌∷◌, ◌++◌, Bool, true, false, ◌&&◌, ◌==◌, IsTrue, length, refl, ap, sym, ◌∙◌, subst, arith, Option, Some, None, nat_lt}
use Rattle.std.specs.Prelude.{Contains, ⊤, if◌then◌else◌}
use Rattle.std.specs.List.{flat_map, sum_by, cons_option}
use Rattle.std.proofs.lemmas.Bool.{eqb-true, eq-eqb, and_parts, and_from, lt-ltb, false_from_ne_true}
use Rattle.std.proofs.Math.Bool.{and-false}
use Rattle.std.proofs.lemmas.List.Sums.{sum_by-append, sum_by-cons}
use Rattle.std.proofs.lemmas.List.Elements.{Contains-append_cases}
use Rattle.vk_model.specs.declared.command.Cmd.{Cmd}
use Rattle.vk_model.specs.declared.entry.Batch.{Batch}
use Rattle.vk_model.specs.declared.entry.Entry.{Entry}
use Rattle.vk_model.specs.declared.entry.Entry.TheVariants as entry
use Rattle.vk_model.specs.Basics.{among}
use Rattle.vk_model.specs.Trace.Point.{Past, Point, Action, Host, Wait, Run, Signal, host_of, entries}
use Rattle.vk_model.specs.Trace.Order.{SubmittedBatch, actions, submitted_batch, batches_from}
use Rattle.vk_model.specs.Trace.Structure.{IsOrdered, IsOfBatch, Follows}
use Rattle.vk_model.specs.Rules.Fault.{newest}
use Rattle.vk_model.specs.Rules.Ids.{until}
use Rattle.vk_model.specs.Sync.Node.{Node, Act, Hosts, nodes, acts, with_acts, same_place}
use Rattle.vk_model.specs.Sync.Before.{before}
use Rattle.vk_model.specs.Sync.Complete.{named_by_act, nodes_for, commands_of, submitted}
use Rattle.vk_model.proofs.Lists.Members.{none_in, contains-cons, contains-head, contains-tail, filtered, filter_has, flat_from, some_member, member_passes}
use Rattle.vk_model.proofs.Lists.Truths.{clash}
use Rattle.vk_model.proofs.Trace.Once.{come_once}
use Rattle.vk_model.proofs.Trace.Structure.{entry_below, is_of_batch}
use Rattle.vk_model.proofs.Sync.NewNodes.{with_acts_keeps}
use Rattle.vk_laws.proofs.Living.Coming.{until_there}
use Rattle.vk_laws.proofs.Living.Submitted.{is_submitted}
use Rattle.vk_laws.proofs.Living.Unended.{runs_of, alike}
use Rattle.vk_laws.proofs.Nodes.Points.{at_point}
use Rattle.vk_laws.proofs.Nodes.Submits.{in_past}
use Rattle.vk_history.proofs.Living.Counting.{any_counted, swapped}
use Rattle.vk_history.specs.Uses.{times_named, times_of, times_in, times_submitted, times_waiting}

-- ---- lists of points, no two of them at one place

abbrev pub AreApart : List Point → Type 0
AreApart [] = ⊤
AreApart (x ∷ xs) = ((y : Point) → Contains xs y → same_place y x ≡ false) × AreApart xs

apart_append : (xs ys : List Point) → AreApart xs → AreApart ys → ((x y : Point) → Contains xs x → Contains ys y → same_place y x ≡ false) → AreApart (xs ++ ys)
apart_append [] ys a b cross = b
apart_append (x ∷ xs) ys a b cross = (
  λ y c. ⊎_elim (λ left. a.0 y left) (λ right. cross x y (contains-head x xs) right) (Contains-append_cases xs ys y c),
  apart_append xs ys a.1 b (λ z y c d. cross z y (contains-tail x xs z c) d),
)

-- a sum in which one point's part goes
pub one_gone : (f g : Point → ℕ) (q : Point) (xs : List Point) → AreApart xs → Contains xs q → ((x : Point) → same_place x q ≡ false → g x ≡ f x) → ((x : Point) → same_place q x ≡ false → g x ≡ f x) → g q ≡ 0 → sum_by g xs + f q ≡ sum_by f xs
one_gone f g q [] apart there same turned gone = absurd (none_in q there)
one_gone f g q (x ∷ xs) apart there same turned gone = ⊎_elim
    (λ here.
    let rest : sum_by g xs ≡ sum_by f xs = all_same xs (λ y c. same y (ap (same_place y) (sym here) ∙ apart.0 y c)) in
    let a = sum_by-cons g x xs in
    let b = sum_by-cons f x xs in
    let none : g x ≡ 0 = ap g here ∙ gone in
    let own : f x ≡ f q = ap f here in
    omega (arith, rest, a, b, none, own))
    (λ later.
    let rest = one_gone f g q xs apart.1 later same turned gone in
    let a = sum_by-cons g x xs in
    let b = sum_by-cons f x xs in
    let stays : g x ≡ f x = turned x (apart.0 q later) in
    omega (arith, rest, a, b, stays))
    (contains-cons x xs q there)
  where
    all_same : (ys : List Point) → ((y : Point) → Contains ys y → g y ≡ f y) → sum_by g ys ≡ sum_by f ys
    all_same [] each = refl
    all_same (y ∷ ys) each =
        let a = sum_by-cons g y ys in
        let b = sum_by-cons f y ys in
        let first = each y (contains-head y ys) in
        let rest = all_same ys (λ z c. each z (contains-tail y ys z c)) in
        omega (arith, a, b, first, rest)

pub same_sum : (f g : Point → ℕ) (ys : List Point) → ((y : Point) → Contains ys y → g y ≡ f y) → sum_by g ys ≡ sum_by f ys
same_sum f g [] each = refl
same_sum f g (y ∷ ys) each =
    let a = sum_by-cons g y ys in
    let b = sum_by-cons f y ys in
    let first = each y (contains-head y ys) in
    let rest = same_sum f g ys (λ z c. each z (contains-tail y ys z c)) in
    omega (arith, a, b, first, rest)

-- ---- the commands of a submit

-- the points of a batch's commands are at its places
record IsIn (t : SubmittedBatch) (k : ℕ) (x : Point) : Type 0 where
  entry : x.entry ≡ t.entry
  batch : x.batch ≡ t.batch
  low : x.place < k

actions_in : (t : SubmittedBatch) (k : ℕ) (cs : List Cmd) (before : List Point) → ((x : Point) → Contains before x → IsIn t k x) → (x : Point) → Contains (actions Run t k cs before) x → IsIn t (k + length cs) x
actions_in t k [] before all x c = let i = all x c in record { entry = i.entry; batch = i.batch; low = let lt = i.low in omega (arith, lt) }
actions_in t k (d ∷ cs) before all x c =
    let i = actions_in t (k + 1) cs _ (λ y there. ⊎_elim
    (λ (same : record { entry = t.entry; batch = t.batch; place = k; queue = t.queue; action = Run d } ≡ y). record { entry = ap (λ (p : Point). p.entry) (sym same); batch = ap (λ (p : Point). p.batch) (sym same); low = let e = ap (λ (p : Point). p.place) same in omega (arith, e) })
    (λ old. let j = all y old in record { entry = j.entry; batch = j.batch; low = let lt = j.low in omega (arith, lt) })
    (contains-cons _ before y there)) x c in
    record { entry = i.entry; batch = i.batch; low = let lt = i.low in omega (arith, lt) }

other_place : (x y : Point) → (x.place ≡ y.place → ⊥) → same_place x y ≡ false
other_place x y other = false_from_ne_true (same_place x y) (λ h. other (eqb-true x.place y.place (and_parts (x.entry == y.entry && x.batch == y.batch) (x.place == y.place) h).1))

pub other_batch : (x y : Point) → (x.batch ≡ y.batch → ⊥) → same_place x y ≡ false
other_batch x y other = false_from_ne_true (same_place x y) (λ h. other (eqb-true x.batch y.batch (and_parts (x.entry == y.entry) (x.batch == y.batch) (and_parts (x.entry == y.entry && x.batch == y.batch) (x.place == y.place) h).0).1))

pub other_entry : (x y : Point) → (x.entry ≡ y.entry → ⊥) → same_place x y ≡ false
other_entry x y other = false_from_ne_true (same_place x y) (λ h. other (eqb-true x.entry y.entry (and_parts (x.entry == y.entry) (x.batch == y.batch) (and_parts (x.entry == y.entry && x.batch == y.batch) (x.place == y.place) h).0).0))

actions_apart : (t : SubmittedBatch) (k : ℕ) (cs : List Cmd) (before : List Point) → ((x : Point) → Contains before x → IsIn t k x) → AreApart before → AreApart (actions Run t k cs before)
actions_apart t k [] before all apart = apart
actions_apart t k (d ∷ cs) before all apart = actions_apart t (k + 1) cs _
    (λ y there. ⊎_elim
    (λ (same : record { entry = t.entry; batch = t.batch; place = k; queue = t.queue; action = Run d } ≡ y). record { entry = ap (λ (p : Point). p.entry) (sym same); batch = ap (λ (p : Point). p.batch) (sym same); low = let e = ap (λ (p : Point). p.place) same in omega (arith, e) })
    (λ old. let j = all y old in record { entry = j.entry; batch = j.batch; low = let lt = j.low in omega (arith, lt) })
    (contains-cons _ before y there))
    (λ y c. other_place y (record { entry = t.entry; batch = t.batch; place = k; queue = t.queue; action = Run d }) (λ e. let lt = (all y c).low in omega (arith, lt, e)), apart)

-- those of a submit's batches from number k on
record IsFrom (e k : ℕ) (x : Point) : Type 0 where
  entry : x.entry ≡ e
  high : k ≤ x.batch

abbrev pub commands : SubmittedBatch → List Point
commands t = actions Run t 0 t.content.commands []

batches_in : (past : Past) (e q k : ℕ) (bs : List Batch) (x : Point) → Contains (flat_map commands (batches_from past e q k bs)) x → IsFrom e k x
batches_in past e q k [] x c = absurd (none_in x c)
batches_in past e q k (b ∷ bs) x c = ⊎_elim
    (λ own. let i = actions_in (submitted_batch past e q k b) 0 b.commands [] (λ y none. absurd (none_in y none)) x own in record { entry = i.entry; high = let h = i.batch in omega (arith, h) })
    (λ later. let i = batches_in past e q (k + 1) bs x later in record { entry = i.entry; high = let h = i.high in omega (arith, h) })
    (Contains-append_cases (commands (submitted_batch past e q k b)) (flat_map commands (batches_from past e q (k + 1) bs)) x c)

batches_apart : (past : Past) (e q k : ℕ) (bs : List Batch) → AreApart (flat_map commands (batches_from past e q k bs))
batches_apart past e q k [] = tt
batches_apart past e q k (b ∷ bs) = apart_append (commands (submitted_batch past e q k b)) (flat_map commands (batches_from past e q (k + 1) bs))
    (actions_apart (submitted_batch past e q k b) 0 b.commands [] (λ y none. absurd (none_in y none)) tt) (batches_apart past e q (k + 1) bs)
    (λ x y own later. other_batch y x (λ same.
    let i = actions_in (submitted_batch past e q k b) 0 b.commands [] (λ z none. absurd (none_in z none)) x own in
    let low = i.batch in
    let high = (batches_in past e q (k + 1) bs y later).high in
    omega (arith, same, low, high)))

pub commands_in : (past : Past) (e : ℕ) (o : Option Entry) (x : Point) → Contains (commands_of past e o) x → x.entry ≡ e
commands_in past e None x c = absurd (none_in x c)
commands_in past e (Some (entry.Submit q bs)) x c = (batches_in past e q 0 bs x c).entry
commands_in past e (Some _) x c = absurd (none_in x c)

commands_apart : (past : Past) (e : ℕ) (o : Option Entry) → AreApart (commands_of past e o)
commands_apart past e None = tt
commands_apart past e (Some (entry.Submit q bs)) = batches_apart past e q 0 bs
commands_apart past e (Some _) = tt

-- a host entry has the number of those before it
number_of : (past : Past) (p : Point) (d : Action) (x : Entry) → host_of d ≡ Some x → Follows past p d → p.entry ≡ length (entries past)
number_of past p (Host y) x is f = ap (λ (q : Point). q.entry) f
number_of past p (Wait w) x is f = absurd cc
number_of past p (Run c) x is f = absurd cc
number_of past p (Signal s) x is f = absurd cc

pub submitted_low : (past : Past) → IsOrdered past → (x : Point) → Contains (submitted past) x → x.entry < length (entries past)
submitted_low [] o x c = absurd (none_in x c)
submitted_low (p ∷ past) o x c = go (host_of p.action) refl (⊎_elim (λ own. inl own) (λ old. inr (submitted_low past o.1 x old)) (Contains-append_cases (commands_of past p.entry (host_of p.action)) (submitted past) x c)) where
  go : (h : Option Entry) → host_of p.action ≡ h → Contains (commands_of past p.entry (host_of p.action)) x ⊎ (x.entry < length (entries past)) → x.entry < length (cons_option h (entries past))
  go None is (inl own) = absurd (none_in x (subst (λ (h : Option Entry). Contains (commands_of past p.entry h) x) is own))
  go None is (inr lt) = lt
  go (Some y) is (inl own) = let e = commands_in past p.entry (host_of p.action) x own in let n = number_of past p p.action y is o.0 in omega (arith, e, n)
  go (Some y) is (inr lt) = omega (arith, lt)

one_more_apart : (past : Past) (p : Point) → IsOrdered (p ∷ past) → AreApart (submitted past) → AreApart (submitted (p ∷ past))
one_more_apart past p o apart = go (host_of p.action) refl where
  go : (h : Option Entry) → host_of p.action ≡ h → AreApart (commands_of past p.entry (host_of p.action) ++ submitted past)
  go None is = subst (λ (h : Option Entry). AreApart (commands_of past p.entry h ++ submitted past)) (sym is) apart
  go (Some y) is = apart_append (commands_of past p.entry (host_of p.action)) (submitted past) (commands_apart past p.entry (host_of p.action)) apart
      (λ x z own old. other_entry z x (λ same.
      let e = commands_in past p.entry (host_of p.action) x own in
      let n = number_of past p p.action y is o.0 in
      let lt = submitted_low past o.1 z old in
      omega (arith, e, n, lt, same)))

pub submitted_apart : (past : Past) → IsOrdered past → AreApart (submitted past)
submitted_apart [] o = tt
submitted_apart (p ∷ past) o = one_more_apart past p o (submitted_apart past o.1)

-- ---- places

pub same_entry : (x y : Point) → IsTrue (same_place x y) → x.entry ≡ y.entry
same_entry x y h = eqb-true x.entry y.entry (and_parts (x.entry == y.entry) (x.batch == y.batch) (and_parts (x.entry == y.entry && x.batch == y.batch) (x.place == y.place) h).0).0

same_turned : (x y : Point) → same_place y x ≡ same_place x y
same_turned x y = rw (swapped y.entry x.entry, swapped y.batch x.batch, swapped y.place x.place) refl

pub place_itself : (p : Point) → IsTrue (same_place p p)
place_itself p = rw (eq-eqb p.entry p.entry refl, eq-eqb p.batch p.batch refl, eq-eqb p.place p.place refl) refl

pub has_some_node : (l : List Node) (n : Node) → Contains l n → nat_lt 0 (length l) ≡ true
has_some_node [] n c = absurd (none_in n c)
has_some_node (m ∷ l) n c = lt-ltb 0 (length (m ∷ l)) (omega arith)

pub none_counted : (k : ℕ) → nat_lt 0 k ≡ false → k ≡ 0
none_counted zero h = refl
none_counted (suc k) h = clash (lt-ltb 0 (suc k) (omega arith)) h

-- ---- how often they name a resource

module _ (r : ℕ) where
  abbrev named : Point → ℕ
  named x = times_named r x.action

  actions_named : (t : SubmittedBatch) (k : ℕ) (cs : List Cmd) (before : List Point) → sum_by named (actions Run t k cs before) ≡ times_of r cs + sum_by named before
  actions_named t k [] before = omega arith
  actions_named t k (d ∷ cs) before =
      let p : Point = record { entry = t.entry; batch = t.batch; place = k; queue = t.queue; action = Run d } in
      let rest = actions_named t (k + 1) cs (p ∷ before) in
      let a = sum_by-cons named p before in
      let b = sum_by-cons (λ c. times_named r (Run c)) d cs in
      omega (arith, rest, a, b)

  batches_named : (past : Past) (e q k : ℕ) (bs : List Batch) → sum_by named (flat_map commands (batches_from past e q k bs)) ≡ times_in r bs
  batches_named past e q k [] = refl
  batches_named past e q k (b ∷ bs) =
      let rest = batches_named past e q (k + 1) bs in
      let split = sum_by-append named (actions Run (submitted_batch past e q k b) 0 b.commands []) (flat_map commands (batches_from past e q (k + 1) bs)) in
      let one = actions_named (submitted_batch past e q k b) 0 b.commands [] in
      let more = sum_by-cons (λ b. times_of r b.commands) b bs in
      omega (arith, rest, split, one, more)

-- ---- nodes that come

-- one that names nothing of the resource
pub quiet_node : (n : Node) (ns : List Node) (x : Point) (r : ℕ) → among r (named_by_act n.act) ≡ false → nodes_for (n ∷ ns) x r ≡ nodes_for ns x r
quiet_node n ns x r none = rw (none, and-false (same_place n.point x)) refl

-- those of a command at another place
acts_elsewhere : (p x : Point) (r : ℕ) → same_place p x ≡ false → (as' : List Act) (ns : List Node) → nodes_for (with_acts p as' ns) x r ≡ nodes_for ns x r
acts_elsewhere p x r other [] ns = refl
acts_elsewhere p x r other (a ∷ more) ns = acts_elsewhere p x r other more (record { number = length ns; point = p; act = a } ∷ ns) ∙ rw other refl

-- those of a command
act_there : (p : Point) (as' : List Act) (ns : List Node) (a : Act) → Contains as' a → (n : Node) × Contains (with_acts p as' ns) n × (n.act ≡ a) × (n.point ≡ p)
act_there p [] ns a c = absurd (none_in a c)
act_there p (b ∷ more) ns a c = let n : Node = record { number = length ns; point = p; act = b } in ⊎_elim
    (λ same. (n, with_acts_keeps p more (n ∷ ns) n (contains-head n ns), same, refl))
    (λ later. act_there p more (n ∷ ns) a later)
    (contains-cons b more a c)

same_weight : (ns ms : List Node) (r : ℕ) (x : Point) → nodes_for ms x r ≡ nodes_for ns x r → times_waiting ms r x ≡ times_waiting ns r x
same_weight ns ms r x same = ap (λ (l : List Node). if nat_lt 0 (length l) then 0 else times_named r x.action) same

-- ---- points that come

-- what no entry submits, by a node that names nothing
pub quiet_step : (past : Past) (p : Point) (a : Act) (r : ℕ) → acts p.action ≡ a ∷ [] → among r (named_by_act a) ≡ false → commands_of past p.entry (host_of p.action) ≡ []
    → sum_by (times_waiting (nodes (p ∷ past)) r) (submitted (p ∷ past)) ≡ sum_by (times_waiting (nodes past) r) (submitted past)
quiet_step past p a r alone none nothing =
    ap (λ (l : List Point). sum_by (times_waiting (nodes (p ∷ past)) r) (l ++ submitted past)) nothing
    ∙ same_sum (times_waiting (nodes past) r) (times_waiting (nodes (p ∷ past)) r) (submitted past)
    (λ x c. same_weight (nodes past) (nodes (p ∷ past)) r x (ap (λ (l : List Act). nodes_for (with_acts p l (nodes past)) x r) alone ∙ quiet_node _ (nodes past) x r none))

-- a submit
pub submit_step : (past : Past) (p : Point) (q : ℕ) (bs : List Batch) (r : ℕ) → IsOrdered (p ∷ past) → p.action ≡ Host (entry.Submit q bs)
    → sum_by (times_waiting (nodes (p ∷ past)) r) (submitted (p ∷ past)) ≡ sum_by (times_waiting (nodes past) r) (submitted past) + times_in r bs
submit_step past p q bs r o is =
    ap (λ (d : Action). sum_by g (commands_of past p.entry (host_of d) ++ submitted past)) is
    ∙ (let split = sum_by-append g new (submitted past) in
    let old = same_sum f g (submitted past) (λ x c. stays x) in
    let fresh = same_sum named_now g new unstarted in
    let named = batches_named r past p.entry q 0 bs in
    omega (arith, split, old, fresh, named))
  where
    f : Point → ℕ
    f = times_waiting (nodes past) r

    g : Point → ℕ
    g = times_waiting (nodes (p ∷ past)) r

    named_now : Point → ℕ
    named_now x = times_named r x.action

    new : List Point
    new = flat_map commands (batches_from past p.entry q 0 bs)

    same_nodes : (x : Point) → nodes_for (nodes (p ∷ past)) x r ≡ nodes_for (nodes past) x r
    same_nodes x = ap (λ (d : Action). nodes_for (with_acts p (acts d) (nodes past)) x r) is ∙ quiet_node (record { number = length (nodes past); point = p; act = Hosts (entry.Submit q bs) }) (nodes past) x r refl

    stays : (x : Point) → g x ≡ f x
    stays x = same_weight (nodes past) (nodes (p ∷ past)) r x (same_nodes x)

    unstarted : (x : Point) → Contains new x → g x ≡ named_now x
    unstarted x c = stays x ∙ ap (λ (l : List Node). if nat_lt 0 (length l) then 0 else times_named r x.action) (empty (nodes_for (nodes past) x r) refl) where
      number : p.entry ≡ length (entries past)
      number = number_of past p p.action (entry.Submit q bs) (ap host_of is) o.0

      empty : (l : List Node) → nodes_for (nodes past) x r ≡ l → l ≡ []
      empty [] e = refl
      empty (m ∷ l) e =
          let f = filtered (λ m. same_place m.point x && among r (named_by_act m.act)) (nodes past) m (subst (λ (k : List Node). Contains k m) (sym e) (contains-head m l)) in
          let at = at_point past m f.0 in
          let low : at.at.entry < length (entries past) = entry_below past o.1 at.at (in_past past m at) in
          let place = (and_parts (same_place m.point x) (among r (named_by_act m.act)) f.1).0 in
          let same : m.point.entry ≡ x.entry = same_entry m.point x place in
          let its : x.entry ≡ p.entry = (batches_in past p.entry q 0 bs x c).entry in
          let where_it_is : m.point.entry ≡ at.at.entry = ap (λ (y : Point). y.entry) at.pointed in
          absurd (omega (arith, low, same, its, number, where_it_is))

-- a command that is started
pub run_step : (past : Past) (p : Point) (c : Cmd) (r : ℕ) → IsOrdered (p ∷ past) → p.action ≡ Run c
    → sum_by (times_waiting (nodes (p ∷ past)) r) (submitted (p ∷ past)) ≡ sum_by (times_waiting (nodes past) r) (submitted past) - times_named r (Run c)
run_step past p c r o is =
    ap (λ (d : Action). sum_by g (commands_of past p.entry (host_of d) ++ submitted past)) is
    ∙ (let all = one_gone f g p (submitted past) (submitted_apart past o.1) there (λ x other. stays x (same_turned x p ∙ other)) stays gone in
    let own = weight in
    omega (arith, all, own))
  where
    f : Point → ℕ
    f = times_waiting (nodes past) r

    g : Point → ℕ
    g = times_waiting (nodes (p ∷ past)) r

    of : IsOfBatch past p
    of = is_of_batch past p p.action (ap host_of is) o.0

    there : Contains (submitted past) p
    there = is_submitted past (until p.entry past) past p c of is (until_there past o.1 p.entry (entry.Submit p.queue of.batches) of.submitted)

    stays : (x : Point) → same_place p x ≡ false → g x ≡ f x
    stays x other = same_weight (nodes past) (nodes (p ∷ past)) r x (acts_elsewhere p x r other (acts p.action) (nodes past))

    weight : f p ≡ times_named r (Run c)
    weight = ap (λ (l : List Node). if nat_lt 0 (length l) then 0 else times_named r p.action) (empty (nodes_for (nodes past) p r) refl) ∙ ap (times_named r) is where
      empty : (l : List Node) → nodes_for (nodes past) p r ≡ l → nodes_for (nodes past) p r ≡ []
      empty [] e = e
      empty (m ∷ l) e =
          let f = filtered (λ m. same_place m.point p && among r (named_by_act m.act)) (nodes past) m (subst (λ (k : List Node). Contains k m) (sym e) (contains-head m l)) in
          let at = at_point past m f.0 in
          let its = and_parts (same_place m.point p) (among r (named_by_act m.act)) f.1 in
          let d = runs_of at.at.action m.act at.acted r its.1 in
          absurd (come_once (p ∷ past) past p at.at o newest (in_past past m at) (alike p at.at m.point at.pointed its.0 c d.0 is d.1))

    gone : g p ≡ 0
    gone = go (among r (flat_map named_by_act (acts p.action))) refl where
      go : (b : Bool) → among r (flat_map named_by_act (acts p.action)) ≡ b → g p ≡ 0
      go false e = never (nat_lt 0 (length (nodes_for (nodes (p ∷ past)) p r))) (none_counted (times_named r p.action) (sym (any_counted (λ i. r == i) (flat_map named_by_act (acts p.action))) ∙ e)) where
        never : (b : Bool) → times_named r p.action ≡ 0 → (if b then 0 else times_named r p.action) ≡ 0
        never true z = refl
        never false z = z
      go true e =
          let some = some_member (λ i. r == i) (flat_map named_by_act (acts p.action)) e in
          let a = flat_from named_by_act (acts p.action) some.0 some.1 in
          let n = act_there p (acts p.action) (nodes past) a.0 a.1 in
          let named : IsTrue (among r (named_by_act n.0.act)) = subst (λ (b : Act). IsTrue (among r (named_by_act b))) (sym n.2) (member_passes (λ i. r == i) (named_by_act a.0) some.0 a.2 some.2) in
          let kept = filter_has (λ m. same_place m.point p && among r (named_by_act m.act)) (nodes (p ∷ past)) n.0 n.1 (and_from (same_place n.0.point p) (among r (named_by_act n.0.act)) (subst (λ (y : Point). IsTrue (same_place y p)) (sym n.3) (place_itself p)) named) in
          rw (has_some_node (nodes_for (nodes (p ∷ past)) p r) n.0 kept) refl

-- an entry that submits nothing
other : (past : Past) (p : Point) (x : Entry) (r : ℕ) → p.action ≡ Host x → commands_of past p.entry (Some x) ≡ [] → times_submitted r x ≡ 0
    → sum_by (times_waiting (nodes (p ∷ past)) r) (submitted (p ∷ past)) ≡ sum_by (times_waiting (nodes past) r) (submitted past) + times_submitted r x
other past p x r is none times = let e = quiet_step past p (Hosts x) r (ap acts is) refl (ap (λ (d : Action). commands_of past p.entry (host_of d)) is ∙ none) in omega (arith, e, times)

-- any entry of the host
pub host_step : (past : Past) (p : Point) (x : Entry) (r : ℕ) → IsOrdered (p ∷ past) → p.action ≡ Host x
    → sum_by (times_waiting (nodes (p ∷ past)) r) (submitted (p ∷ past)) ≡ sum_by (times_waiting (nodes past) r) (submitted past) + times_submitted r x
host_step past p (entry.Submit q bs) r o is = submit_step past p q bs r o is
host_step past p (entry.Pool i n) r o is = other past p _ r is refl refl
host_step past p (entry.Buffer i n) r o is = other past p _ r is refl refl
host_step past p (entry.Image i n) r o is = other past p _ r is refl refl
host_step past p (entry.Memory i n) r o is = other past p _ r is refl refl
host_step past p (entry.Free m) r o is = other past p _ r is refl refl
host_step past p (entry.Destroy m) r o is = other past p _ r is refl refl
host_step past p (entry.DropPool m) r o is = other past p _ r is refl refl
host_step past p (entry.Map b) r o is = other past p _ r is refl refl
host_step past p (entry.Unmap b) r o is = other past p _ r is refl refl
host_step past p (entry.Write b k n) r o is = other past p _ r is refl refl
host_step past p (entry.Read b k n) r o is = other past p _ r is refl refl
host_step past p (entry.Flush b k n) r o is = other past p _ r is refl refl
host_step past p (entry.Invalidate b k n) r o is = other past p _ r is refl refl
host_step past p (entry.Semaphore i v) r o is = other past p _ r is refl refl
host_step past p (entry.Event i) r o is = other past p _ r is refl refl
host_step past p (entry.Signal s v) r o is = other past p _ r is refl refl
host_step past p (entry.Wait ws) r o is = other past p _ r is refl refl
host_step past p (entry.Defrag i q b m) r o is = other past p _ r is refl refl
host_step past p (entry.Pass d) r o is = other past p _ r is refl refl
host_step past p (entry.EndPass d k l) r o is = other past p _ r is refl refl
host_step past p (entry.EndDefrag d) r o is = other past p _ r is refl refl
