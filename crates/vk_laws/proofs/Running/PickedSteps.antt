-- What a scheduler may choose before an entry: each choice is allowed, and leaves less to do.
use Rattle.std.proofs.Common.{◌≡◌, ◌⊎◌, ⊎_elim, ℕ, ◌+◌, ◌<◌, ◌≤◌, List, [], ◌∷◌, ◌++◌, map, length, Bool, true, false, cond, ◌||◌, not, IsTrue, refl, ap, sym, subst, arith, length-append}
use Rattle.std.specs.Prelude.{Contains, ◌==◌, if◌then◌else◌}
use Rattle.std.specs.List.{filter, sum_by}
use Rattle.std.proofs.lemmas.Bool.{eq-eqb}
use Rattle.std.proofs.lemmas.List.{length-map}
use Rattle.std.proofs.lemmas.List.FromFn.{length-range_with_len}
use Rattle.std.proofs.lemmas.List.Sums.{sum_by-cons, sum_by-le-sum_by, length-filter, count_by-le-length}
use Rattle.std.proofs.lemmas.List.Elements.{Contains-append_cases}
use Rattle.vk_model.specs.declared.entry.Entry.{Entry}
use Rattle.vk_model.specs.Basics.{below, among}
use Rattle.vk_model.specs.Sync.Node.{Node, Act, Runs, nodes}
use Rattle.vk_model.specs.Run.Pieces.{pieces}
use Rattle.vk_model.specs.Run.Runs.{Name, same_name, is_done, node_pieces, offered, Step, RunPiece, CopyPart, Stage, may_go, Next, parts_left}
use Rattle.vk_model.specs.Run.Picks.{Choice, Take, Go, stepped, options, most_picks}
use Rattle.vk_laws.specs.PickedRuns.{ChoiceIsAllowed}
use Rattle.vk_model.proofs.Lists.Members.{none_in, only_one, contains-cons, member_passes, mapped_from, map_has, numbers_have, filtered}
use Rattle.vk_model.proofs.Lists.Truths.{clash}
use Rattle.vk_laws.proofs.Running.StageTasks.{name_itself}
use Rattle.vk_laws.proofs.Running.OfferedPieces.{Offered, offered_of}

-- ---- sums, and how many pass a test

sum_less : {X : Type 0} (f g : X → ℕ) → ((x : X) → f x ≤ g x) → (xs : List X) (x : X) → Contains xs x → f x < g x → sum_by f xs < sum_by g xs
sum_less f g fewer [] x c lt = absurd (none_in x c)
sum_less {X} f g fewer (y ∷ ys) x c lt =
    let a = sum_by-cons f y ys in
    let b = sum_by-cons g y ys in
    let one = fewer y in
    let more = sum_by-le-sum_by f g ys fewer in
    ⊎_elim
    (λ same. let low = subst (λ (z : X). f z < g z) (sym same) lt in omega (arith, a, b, low, more))
    (λ later. let rest = sum_less f g fewer ys x later lt in omega (arith, a, b, one, rest)) (contains-cons y ys x c)

module _ {X : Type 0} (p q : X → Bool) (fewer : (x : X) → IsTrue (p x) → IsTrue (q x)) where
  abbrev Passes : (X → Bool) → X → ℕ
  Passes f x = cond (f x) 1 0

  one_fewer : (x : X) → Passes p x ≤ Passes q x
  one_fewer x = go (p x) (q x) refl refl
    where
      go : (b d : Bool) → p x ≡ b → q x ≡ d → cond b 1 0 ≤ cond d 1 0
      go true true e f = omega arith
      go true false e f = absurd (clash {b = q x} (fewer x e) f)
      go false d e f = omega arith

  filter_fewer : (xs : List X) → length (filter p xs) ≤ length (filter q xs)
  filter_fewer xs = rw (length-filter p xs, length-filter q xs) (sum_by-le-sum_by (Passes p) (Passes q) xs one_fewer)

  -- where a member passes the one test alone
  filter_less : (xs : List X) (x : X) → Contains xs x → p x ≡ false → IsTrue (q x) → length (filter p xs) < length (filter q xs)
  filter_less xs x c fails passes = rw (length-filter p xs, length-filter q xs) (sum_less (Passes p) (Passes q) one_fewer xs x c (rw (fails, passes) (omega arith)))

filter_some : {X : Type 0} (p : X → Bool) (xs : List X) → length (filter p xs) ≤ length xs
filter_some p xs = rw (length-filter p xs) (count_by-le-length p xs)

-- ---- what is left to do

abbrev left_of : Stage → List Name → Node → ℕ
left_of s done n = length (filter (λ y. not (is_done done y)) (node_pieces s.front.past n n.act))

abbrev pub to_do : Stage → ℕ
to_do s = sum_by (left_of s s.done) (nodes s.front.past) + length (parts_left s)

pub to_do_below : (answer : List ℕ → ℕ → ℕ) (next : List ℕ → ℕ → List ℕ) (s : Stage) → to_do s < most_picks answer next s
to_do_below answer next s =
    let le = sum_by-le-sum_by (left_of s s.done) (λ n. length (node_pieces s.front.past n n.act)) (nodes s.front.past) (λ n. filter_some (λ y. not (is_done s.done y)) (node_pieces s.front.past n n.act)) in
    let parts = filter_some (λ k. not (among k s.copied)) (below s.parts) in
    let count : length (below s.parts) ≡ s.parts = length-range_with_len 0 s.parts in
    omega (arith, le, parts, count)

-- an option is allowed, and a step that is taken leaves less to do
pub data Fits (s : Stage) (x : Entry) : Choice → Type 0 where
  Takes : (step : Step) → Next s step (stepped step s) → to_do (stepped step s) < to_do s → Fits s x (Take step)
  Goes : IsTrue (may_go s x) → Fits s x Go

pub fits_allowed : (s : Stage) (x : Entry) (c : Choice) → Fits s x c → ChoiceIsAllowed s x c
fits_allowed s x _ (Takes step next less) = next
fits_allowed s x _ (Goes may) = may

-- ---- a piece that is offered

module _ (s : Stage) (x : Entry) where
  its_place : (y : Name) (o : Offered s.front.past s.done y) → Contains (node_pieces s.front.past o.node o.node.act) y
  its_place y o =
      let same : 0 + y.1 ≡ y.1 = omega arith in
      let name : (o.node.number, 0 + y.1) ≡ y = λ i. (o.number i, same i) in
      subst (λ (a : Act). Contains (node_pieces s.front.past o.node a) y) (sym o.act)
      (subst (λ (z : Name). Contains (node_pieces s.front.past o.node (Runs o.command)) z) name
      (map_has (λ k. (o.node.number, k)) (below (length (pieces s.front.past o.command))) (0 + y.1) (numbers_have 0 (length (pieces s.front.past o.command)) y.1 o.index)))

  piece_fits : (y : Name) → Contains (offered s.front.past s.done) y → Fits s x (Take (RunPiece y))
  piece_fits y c = Takes (RunPiece y) (h, refl) less
    where
      h : IsTrue (is_done (offered s.front.past s.done) y)
      h = member_passes (same_name y) (offered s.front.past s.done) y c (name_itself y)

      o : Offered s.front.past s.done y
      o = offered_of s.front.past s.done y h

      fewer : (z : Name) → IsTrue (not (is_done (y ∷ s.done) z)) → IsTrue (not (is_done s.done z))
      fewer z = go (same_name z y)
        where
          go : (b : Bool) → IsTrue (not (b || is_done s.done z)) → IsTrue (not (is_done s.done z))
          go true f = absurd cc
          go false f = f

      less : to_do (stepped (RunPiece y) s) < to_do s
      less =
          let lt = sum_less (left_of s (y ∷ s.done)) (left_of s s.done) (λ n. filter_fewer _ _ fewer (node_pieces s.front.past n n.act)) (nodes s.front.past) o.node o.present
          (filter_less _ _ fewer (node_pieces s.front.past o.node o.node.act) y (its_place y o) (ap (λ (b : Bool). not (b || is_done s.done y)) (name_itself y)) o.fresh) in
          omega (arith, lt)

  -- ---- a part of an open pass

  part_fits : (k : ℕ) → Contains (parts_left s) k → Fits s x (Take (CopyPart k))
  part_fits k c = Takes (CopyPart k) (member_passes (λ j. k == j) (parts_left s) k c (eq-eqb k k refl), refl) less
    where
      fewer : (j : ℕ) → IsTrue (not (among j (k ∷ s.copied))) → IsTrue (not (among j s.copied))
      fewer j = go (j == k)
        where
          go : (b : Bool) → IsTrue (not (b || among j s.copied)) → IsTrue (not (among j s.copied))
          go true f = absurd cc
          go false f = f

      less : to_do (stepped (CopyPart k) s) < to_do s
      less =
          let here = filtered (λ j. not (among j s.copied)) (below s.parts) k c in
          let lt = filter_less _ _ fewer (below s.parts) k here.0 (ap (λ (b : Bool). not (b || among k s.copied)) (eq-eqb k k refl)) here.1 in
          omega (arith, lt)

  -- ---- any option

  abbrev piece_choices : List Choice
  piece_choices = map (λ n. Take (RunPiece n)) (offered s.front.past s.done)

  abbrev part_choices : List Choice
  part_choices = map (λ k. Take (CopyPart k)) (parts_left s)

  abbrev entry_choices : List Choice
  entry_choices = if may_go s x then Go ∷ [] else []

  pub option_fits : (answer : List ℕ → ℕ → ℕ) (next : List ℕ → ℕ → List ℕ) (c : Choice) → Contains (options answer next s x) c → Fits s x c
  option_fits answer next c h =
      ⊎_elim
      (λ steps. ⊎_elim
      (λ a. let y = mapped_from (λ n. Take (RunPiece n)) (offered s.front.past s.done) c a in subst (Fits s x) y.2 (piece_fits y.0 y.1))
      (λ b. let k = mapped_from (λ k. Take (CopyPart k)) (parts_left s) c b in subst (Fits s x) k.2 (part_fits k.0 k.1))
      (Contains-append_cases piece_choices part_choices c steps))
      (λ g. go (may_go s x) refl g)
      (Contains-append_cases (piece_choices ++ part_choices) entry_choices c h)
    where
      go : (b : Bool) → may_go s x ≡ b → Contains (if b then Go ∷ [] else []) c → Fits s x c
      go true may g = subst (Fits s x) (only_one Go c g) (Goes may)
      go false may g = absurd (none_in c g)

  -- there is one where the entry may be applied or a piece is offered
  pub some_option : (answer : List ℕ → ℕ → ℕ) (next : List ℕ → ℕ → List ℕ) → IsTrue (may_go s x) ⊎ (y : Name) × IsTrue (is_done (offered s.front.past s.done) y) → 0 < length (options answer next s x)
  some_option answer next h =
      ⊎_elim
      (λ may. let one : length entry_choices ≡ 1 = ap (λ (b : Bool). length (if b then Go ∷ [] else [])) may in omega (arith, whole, one))
      (λ y. let some = some_piece (offered s.front.past s.done) y.0 y.1 in let count = length-map (offered s.front.past s.done) (λ n. Take (RunPiece n)) in omega (arith, whole, steps, some, count)) h
    where
      whole : length (options answer next s x) ≡ length (piece_choices ++ part_choices) + length entry_choices
      whole = length-append (piece_choices ++ part_choices) entry_choices

      steps : length (piece_choices ++ part_choices) ≡ length piece_choices + length part_choices
      steps = length-append piece_choices part_choices

      some_piece : (ys : List Name) (y : Name) → IsTrue (is_done ys y) → 0 < length ys
      some_piece [] y g = absurd cc
      some_piece (z ∷ ys) y g = omega arith
