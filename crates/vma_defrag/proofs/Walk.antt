-- The walk over a pool's allocations in which the moves of a pass are chosen.
use Rattle.std.proofs.Common.{◌≡◌, ℕ, ◌+◌, ◌-◌, ◌<◌, ◌≤◌, ◌^◌, List, [], ◌∷◌, ◌++◌, length, get_or, drop, map, min, Bool, true, false, nat_lt, ◌&&◌, Some, None, refl, sym, ap, subst, ◌∙◌, arith, inl, inr, ◌⊎◌, append_assoc}
use Rattle.std.proofs.lemmas.Bool.{cases_eq, ltb-false, lt-ltb, or_parts}
use Rattle.std.proofs.lemmas.List.{append-nil, drop_all, drop_more, length-append, map-append}
use Rattle.std.proofs.lemmas.List.Elements.{All-nil, All-push, Contains-append_cases}
use Rattle.vk_model.specs.declared.resource.PoolKind.TheVariants as algorithm
use Rattle.vk_model.specs.Memory.MoveTargets.{Moved, Resident, move_target, moves_from, over_limit, pass_moves, reserved}
use Rattle.vk_model.specs.Memory.Pools.{IsByPlace, numbered_blocks}
use Rattle.vk_model.proofs.Lists.Members.{none_in, only_one}
use Rattle.vma_pools.specs.declared.pool.PoolPlace.{PoolPlace}
use Rattle.vma_pools.specs.Pools.{Kept}
use Rattle.vma_pools.specs.Listing.{AreByPlace, residents_of}
use Rattle.vma_pools.specs.State.{PoolsState, ArePools, IfKept, IfLive, IsMovable, IsReserved, pool_at, start_of}
use Rattle.vma_pools.proofs.StateLemmas.{some-is}
use Rattle.vma_pools.proofs.EndedLemmas.{kept-is}
use Rattle.vma_pools.proofs.CallLemmas.{kept-and}
use Rattle.vma_defrag.specs.Plans.{ArePlanned}
use Rattle.vma_defrag.specs.declared.open.Fate.TheVariants.{Made}
use Rattle.vma_defrag.specs.declared.open.Planned.{Planned}
use Rattle.vma_defrag.specs.Inner.Planned.{move_of, moves_of, AreMade}
use Rattle.vma_defrag.specs.Inner.Choosing.{HasChosen, HasReserved}
use Rattle.vma_defrag.proofs.Likeness.{bytes-differ, list-ends, moves-same, one-moves, passed-over}
use Rattle.vma_defrag.proofs.Chain.{others-stay, pools-stay, reserves-more}
use Rattle.vma_defrag.proofs.Blocks.{after-target, kind-stays}
use Rattle.vma_defrag.proofs.Left.{AreLeft, IsLeft, all-left, stay-left}
use Rattle.vma_defrag.proofs.Step.{may-move, now-there, planned-more, takes, the-move, was-there}

-- what a pass is chosen from: the pool as it was, and its allocations by place
pub record IsBegun (old : PoolsState) (pool : ℕ) (numbers : List ℕ) : Type 0 where
  pub kept : Kept
  pub there : pool_at old pool ≡ Some kept
  pub kind : kept.pool.info.kind ≡ algorithm.Tlsf
  pub residents : List Resident
  pub by_place : IsByPlace (residents_of old pool) residents
  pub are : numbers ≡ map (λ a. a.id) residents

-- the moves of the whole list
abbrev pub all_moves : (max_bytes max_moves : ℕ) {old : PoolsState} {pool : ℕ} {numbers : List ℕ} → IsBegun old pool numbers → List Moved
all_moves max_bytes max_moves b = pass_moves max_bytes max_moves (numbered_blocks b.kept.pool.blocks) b.residents

-- what has been chosen, and what may follow of the allocations that are left
pub record IsChosenTo (old now : PoolsState) (pool max_bytes max_moves bytes : ℕ) (chosen : List Planned) (numbers : List ℕ) (at : ℕ) : Type 0 where
  pub begun : IsBegun old pool numbers
  pub kept : Kept
  pub there : pool_at now pool ≡ Some kept
  pub kind : kept.pool.info.kind ≡ algorithm.Tlsf
  pub always : ArePools now
  pub rest : List Resident
  pub numbered : drop at numbers ≡ map (λ a. a.id) rest
  pub left : AreLeft now pool rest
  pub was_left : AreLeft old pool rest
  pub moves : moves_of chosen ++ moves_from max_bytes max_moves bytes (length chosen) (numbered_blocks kept.pool.blocks) rest ≡ all_moves max_bytes max_moves begun
  pub reserved : HasReserved old now (moves_of chosen)
  pub planned : ArePlanned now pool (moves_of chosen)
  pub made : AreMade chosen

-- ---- at the beginning

pub first-chosen : (old : PoolsState) (pool max_bytes max_moves : ℕ) (numbers : List ℕ) (chosen : List Planned) → ArePools old → IfKept old pool (λ k. k.pool.info.kind ≡ algorithm.Tlsf) → ArePlanned old pool [] → AreByPlace old pool numbers
    → chosen ≡ [] → IsChosenTo old old pool max_bytes max_moves 0 chosen numbers 0
first-chosen old pool max_bytes max_moves numbers chosen always kind planned listed none =
    let k = kept-is old pool (λ k. k.pool.info.kind ≡ algorithm.Tlsf) kind in
    let left = all-left old pool listed.listed planned listed.by_place in
    subst (λ (l : List Planned). IsChosenTo old old pool max_bytes max_moves 0 l numbers 0) (sym none) (record {
      begun = record { kept = k.0; there = k.1; kind = k.2; residents = listed.listed; by_place = listed.by_place; are = listed.are };
      kept = k.0;
      there = k.1;
      kind = k.2;
      always = always;
      rest = listed.listed;
      numbered = listed.are;
      left = left;
      was_left = left;
      moves = refl;
      reserved = record { always = always; reserved = refl; once = tt; movable = λ m at. absurd (none_in m at) };
      planned = planned;
      made = All-nil (λ p. p.fate ≡ Made);
    })

-- ---- bytes

pub bytes-counted : (max_bytes max_moves bytes count size new : ℕ) → over_limit max_bytes max_moves bytes count size ≡ false → max_bytes < 2 ^ 64 → new ≡ min (bytes + size) (2 ^ 64 - 1) → (new ≡ bytes + size) ⊎ (max_bytes ≡ 0)
bytes-counted max_bytes max_moves bytes count size new within small is = elim (cases_eq max_bytes 0) [
  | inl none ↦ inr none
  | inr some ↦ (
      let low = (or_parts (nat_lt 0 max_bytes && nat_lt max_bytes (bytes + size)) (nat_lt 0 max_moves && nat_lt max_moves (count + 1)) within).0 in
      let limit : nat_lt 0 max_bytes ≡ true = lt-ltb 0 max_bytes (omega (arith, some)) in
      let fits = ltb-false max_bytes (bytes + size) (sym (ap (λ (v : Bool). v && nat_lt max_bytes (bytes + size)) limit) ∙ low) in
      inl (omega (arith, fits, small, is)))
]

-- ---- at an allocation

module _ (old now : PoolsState) (pool max_bytes max_moves bytes : ℕ) (chosen : List Planned) (numbers : List ℕ) (at : ℕ) (h : IsChosenTo old now pool max_bytes max_moves bytes chosen numbers at) where
  -- all have been looked at
  pub all-chosen : length numbers ≤ at → HasChosen old now pool max_bytes max_moves chosen
  all-chosen past = go h.rest refl
    where
      none : (rs : List Resident) → [] ≡ map (λ a. a.id) rs → rs ≡ []
      none [] e = refl
      none (r ∷ rs) e = absurd cc

      go : (rs : List Resident) → h.rest ≡ rs → HasChosen old now pool max_bytes max_moves chosen
      go rs e =
          let empty : rs ≡ [] = none rs (sym (drop_all at numbers past) ∙ h.numbered ∙ ap (λ (l : List Resident). map (λ a. a.id) l) e) in
          record {
            kept = h.begun.kept;
            there = h.begun.there;
            listed = h.begun.residents;
            by_place = h.begun.by_place;
            moves = sym (append-nil (moves_of chosen)) ∙ ap (λ (l : List Resident). moves_of chosen ++ moves_from max_bytes max_moves bytes (length chosen) (numbered_blocks h.kept.pool.blocks) l) (sym (e ∙ empty)) ∙ h.moves;
            reserved = h.reserved.reserved;
            made = h.made;
          }

  -- the next of those that are left
  pub record IsNext (n : ℕ) : Type 0 where
    pub resident : Resident
    pub rest : List Resident
    pub is : h.rest ≡ resident ∷ rest
    pub its : resident.id ≡ n
    pub more : drop (at + 1) numbers ≡ map (λ a. a.id) rest

  pub the-next : (n : ℕ) → at < length numbers → n ≡ get_or numbers at 0 → IsNext n
  the-next n lt is = go h.rest refl (sym (drop_more numbers at 0 lt) ∙ h.numbered)
    where
      go : (rs : List Resident) → h.rest ≡ rs → get_or numbers at 0 ∷ drop (at + 1) numbers ≡ map (λ a. a.id) h.rest → IsNext n
      go [] e same = absurd (let f = same ∙ ap (λ (l : List Resident). map (λ a. a.id) l) e in cc)
      go (r ∷ rs) e same =
          let f : get_or numbers at 0 ∷ drop (at + 1) numbers ≡ r.id ∷ map (λ a. a.id) rs = same ∙ ap (λ (l : List Resident). map (λ a. a.id) l) e in
          let g : r.id ≡ get_or numbers at 0 = cc in
          record { resident = r; rest = rs; is = e; its = g ∙ sym is; more = cc }

  module _ (n : ℕ) (x : IsNext n) where
    abbrev pub r : Resident
    r = x.resident

    pub is-left : AreLeft now pool (r ∷ x.rest)
    is-left = subst (λ (l : List Resident). AreLeft now pool l) x.is h.left

    was-left : AreLeft old pool (r ∷ x.rest)
    was-left = subst (λ (l : List Resident). AreLeft old pool l) x.is h.was_left

    abbrev from_here : List Resident → List Moved
    from_here l = moves_from max_bytes max_moves bytes (length chosen) (numbered_blocks h.kept.pool.blocks) l

    moves-here : moves_of chosen ++ from_here (r ∷ x.rest) ≡ all_moves max_bytes max_moves h.begun
    moves-here = subst (λ (l : List Resident). moves_of chosen ++ from_here l ≡ all_moves max_bytes max_moves h.begun) x.is h.moves

    -- it has no move target
    pub passes : move_target (numbered_blocks h.kept.pool.blocks) r ≡ None → IsChosenTo old now pool max_bytes max_moves bytes chosen numbers (at + 1)
    passes none = record {
      begun = h.begun;
      kept = h.kept;
      there = h.there;
      kind = h.kind;
      always = h.always;
      rest = x.rest;
      numbered = x.more;
      left = is-left.2;
      was_left = was-left.2;
      moves = ap (λ (l : List Moved). moves_of chosen ++ l) (sym (passed-over max_bytes max_moves bytes (length chosen) (numbered_blocks h.kept.pool.blocks) r x.rest none)) ∙ moves-here;
      reserved = h.reserved;
      planned = h.planned;
      made = h.made;
    }

    -- it has one, and would pass a limit
    pub ends : (t : PoolPlace) → move_target (numbered_blocks h.kept.pool.blocks) r ≡ Some (start_of t) → over_limit max_bytes max_moves bytes (length chosen) r.request.size ≡ true → HasChosen old now pool max_bytes max_moves chosen
    ends t some over = record {
      kept = h.begun.kept;
      there = h.begun.there;
      listed = h.begun.residents;
      by_place = h.begun.by_place;
      moves =
          sym (append-nil (moves_of chosen))
          ∙ ap (λ (l : List Moved). moves_of chosen ++ l) (sym (list-ends max_bytes max_moves bytes (length chosen) (numbered_blocks h.kept.pool.blocks) r x.rest (start_of t) some over)) ∙ moves-here;
      reserved = h.reserved.reserved;
      made = h.made;
    }

    -- its target has been reserved
    module _ (t : PoolsState) (target : PoolPlace) (is : IsReserved now t r.id target) (within : over_limit max_bytes max_moves bytes (length chosen) r.request.size ≡ false)
        (new : ℕ) (counted : (new ≡ bytes + r.request.size) ⊎ (max_bytes ≡ 0)) (p : Planned) (moved : move_of p ≡ record { id = r.id; to = start_of target; bytes = r.request.size }) (made : p.fate ≡ Made) where
      left : IsLeft now pool r
      left = is-left.0

      abbrev m : Moved
      m = the-move now pool r left t target is

      was-kept : h.kept ≡ is.was
      was-kept = some-is h.kept is.was (sym h.there ∙ was-there now pool r left t target is)

      kind-here : is.was.pool.info.kind ≡ algorithm.Tlsf
      kind-here = subst (λ (k : Kept). k.pool.info.kind ≡ algorithm.Tlsf) was-kept h.kind

      some : 0 < r.request.size
      some = subst (λ (n : ℕ). 0 < n) (ap (λ q. q.size) left.listed.request) (h.always.requests r.id left.listed.allocation left.listed.live).some

      chosen-are : moves_of (chosen ++ p ∷ []) ≡ moves_of chosen ++ m ∷ []
      chosen-are = map-append move_of chosen (p ∷ []) ∙ ap (λ (n : Moved). moves_of chosen ++ n ∷ []) moved

      rest-same : moves_from max_bytes max_moves new (length (chosen ++ p ∷ [])) (numbered_blocks is.now.pool.blocks) x.rest
          ≡ moves_from max_bytes max_moves (bytes + r.request.size) (length chosen + 1) (reserved (start_of target) r.request (numbered_blocks is.was.pool.blocks)) x.rest
      rest-same =
          ap (λ (n : ℕ). moves_from max_bytes max_moves new n (numbered_blocks is.now.pool.blocks) x.rest) (length-append chosen (p ∷ []))
          ∙ bytes-differ max_bytes max_moves x.rest new (bytes + r.request.size) (length chosen + 1) (numbered_blocks is.now.pool.blocks) counted
          ∙ moves-same max_bytes max_moves x.rest (bytes + r.request.size) (length chosen + 1) (reserved (start_of target) r.request (numbered_blocks is.was.pool.blocks)) (numbered_blocks is.now.pool.blocks)
          (after-target is.was is.now (h.always.pools pool is.was (was-there now pool r left t target is)) kind-here r.from r.request some (start_of target) (takes now pool r left t target is))

      here-moves : from_here (r ∷ x.rest) ≡ m ∷ moves_from max_bytes max_moves (bytes + r.request.size) (length chosen + 1) (reserved (start_of target) r.request (numbered_blocks is.was.pool.blocks)) x.rest
      here-moves =
          ap (λ (k : Kept). moves_from max_bytes max_moves bytes (length chosen) (numbered_blocks k.pool.blocks) (r ∷ x.rest)) was-kept
          ∙ one-moves max_bytes max_moves bytes (length chosen) (numbered_blocks is.was.pool.blocks) r x.rest (start_of target) ((takes now pool r left t target is).target r.id) within

      planned-here : ArePlanned t pool (moves_of chosen ++ m ∷ [])
      planned-here = planned-more now pool r left t target is h.always (moves_of chosen) h.planned

      reserved-here : HasReserved old t (moves_of chosen ++ m ∷ [])
      reserved-here = record {
        always = h.reserved.always;
        reserved = reserves-more old now t (moves_of chosen) m target h.reserved.reserved refl is;
        once = planned-here.once;
        movable = λ n at. elim (Contains-append_cases (moves_of chosen) (m ∷ []) n at) [
          | inl before ↦ h.reserved.movable n before
          | inr last ↦ subst (λ (k : Moved). IfLive old k.id (λ a. IsMovable old a.home a.target)) (only_one m n last)
              (may-move old pool r was-left.0 (kept-and old pool h.begun.kept (λ k. k.pool.info.kind ≡ algorithm.Tlsf) h.begun.there h.begun.kind))
        ];
      }

      pub goes-on : IsChosenTo old t pool max_bytes max_moves new (chosen ++ p ∷ []) numbers (at + 1)
      goes-on = record {
        begun = h.begun;
        kept = is.now;
        there = now-there now pool r left t target is;
        kind = kind-stays is.was is.now (h.always.pools pool is.was (was-there now pool r left t target is)) kind-here r.from r.request some (start_of target) (takes now pool r left t target is);
        always = pools-stay now t r.id target is h.always (may-move now pool r left (kept-and now pool h.kept (λ k. k.pool.info.kind ≡ algorithm.Tlsf) h.there h.kind));
        rest = x.rest;
        numbered = x.more;
        left = stay-left now t pool x.rest (λ q at. others-stay now t r.id target is q.id (is-left.1 q at)) is-left.2;
        was_left = was-left.2;
        moves =
            ap (λ (l : List Moved). l ++ moves_from max_bytes max_moves new (length (chosen ++ p ∷ [])) (numbered_blocks is.now.pool.blocks) x.rest) chosen-are
            ∙ append_assoc (moves_of chosen) (m ∷ []) (moves_from max_bytes max_moves new (length (chosen ++ p ∷ [])) (numbered_blocks is.now.pool.blocks) x.rest)
            ∙ ap (λ (l : List Moved). moves_of chosen ++ m ∷ l) rest-same
            ∙ ap (λ (l : List Moved). moves_of chosen ++ l) (sym here-moves)
            ∙ moves-here;
        reserved = subst (λ (l : List Moved). HasReserved old t l) (sym chosen-are) reserved-here;
        planned = subst (λ (l : List Moved). ArePlanned t pool l) (sym chosen-are) planned-here;
        made = All-push (λ q. q.fate ≡ Made) chosen p h.made made;
      }
