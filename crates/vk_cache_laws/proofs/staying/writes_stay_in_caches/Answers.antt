use Rattle.std.proofs.Common.{◌≡◌, ◌≢◌, inl, inr, ⊎_elim, ℕ, List, Bool, true, false, Option, Some, None, refl, ap, ◌∙◌}
use Rattle.std.specs.Prelude.{if◌then◌else◌}
use Rattle.vk_model.specs.World.ByteWrites.{ByteWrite}
use Rattle.vk_model.specs.World.Bytes.{Byte}
use Rattle.vk_model.specs.Sync.Node.{Node}
use Rattle.vk_model.specs.Run.Caches.{Dirty, queue_agent}
use Rattle.vk_model.specs.Run.Runs.{RunPiece}
use Rattle.vk_model.specs.Run.CachedRuns.{Cells, named_piece, source_through, after_piece, after_step, happening, Touch, WriteBack, touched}
use Rattle.vk_cache_laws.proofs.WritesStay.{nodes_region, nodes_dirty, piece_region, piece_dirty, touch_others, touch_memory}
use Rattle.vk_cache_laws.proofs.staying.writes_stay_in_caches.Goals as goal

held_by : (touch : Touch) (q : ℕ) (cells : Cells) (b : Byte) (a : ℕ) → a ≢ queue_agent q → (t : Bool) → (if t then touched touch (queue_agent q) (cells b) else cells b).held a ≡ (cells b).held a
held_by touch q cells b a other true = touch_others touch (queue_agent q) a (cells b) other
held_by touch q cells b a other false = refl

region_by : (touch : Touch) (q : ℕ) (cells : Cells) (b : Byte) → touch ≢ WriteBack → (t : Bool) → (if t then touched touch (queue_agent q) (cells b) else cells b).region ≡ (cells b).region
region_by touch q cells b other true = touch_memory touch (queue_agent q) (cells b) other
region_by touch q cells b other false = refl

pub returns-clause-steps : goal.returns-clause-steps
returns-clause-steps c = λ s e step moved b next.
    ⊎_elim (λ same. inl (ap (λ (cs : Cells). (cs b).region) next.1 ∙ same)) (λ f. inr f)
    (nodes_region e.stage.front.past e.stage.done (happening s.stage e.stage) (after_step s.stage step moved s.cells) b)

pub returns-clause-pieces : goal.returns-clause-pieces
returns-clause-pieces c = λ s e x moved b next.
    ⊎_elim (λ same. inl (ap (λ (cs : Cells). (cs b).region) next.1 ∙ same ∙ piece_region _ (named_piece s.stage.front.past x) s.cells b)) (λ f. inr f)
    (nodes_region e.stage.front.past e.stage.done (happening s.stage e.stage) (after_step s.stage (RunPiece x) moved s.cells) b)

pub returns-clause-writes : goal.returns-clause-writes
returns-clause-writes c = λ s e x moved n b w next at is.
    let a : ℕ = queue_agent n.point.queue in
    let ms : List ByteWrite = named_piece s.stage.front.past x in
    let after : Cells = after_step s.stage (RunPiece x) moved s.cells in
    let same : after ≡ after_piece a ms s.cells = ap (λ (o : Option Node). after_piece (elim o [ None ↦ 0 | Some k ↦ queue_agent k.point.queue ]) ms s.cells) at in
    let v : ℕ = source_through a s.cells w.source in
    let dirty : (after b).held a ≡ Some (Dirty v) = ap (λ (cs : Cells). (cs b).held a) same ∙ piece_dirty a ms s.cells b w is in
    ⊎_elim
    (λ kept. inl (v, ap (λ (cs : Cells). (cs b).held a) next.1 ∙ kept.0, ap (λ (cs : Cells). (cs b).region) next.1 ∙ kept.1 ∙ ap (λ (cs : Cells). (cs b).region) same ∙ piece_region a ms s.cells b))
    (λ f. inr f)
    (nodes_dirty e.stage.front.past e.stage.done (happening s.stage e.stage) after b a v dirty)

pub returns-clause-touches : goal.returns-clause-touches
returns-clause-touches c = λ s e touch q test b next. record {
  others = λ a other. ap (λ (cs : Cells). (cs b).held a) next.1 ∙ held_by touch q s.cells b a other (test b);
  untouched = λ no. ap (λ (cs : Cells). cs b) next.1 ∙ ap (λ (t : Bool). if t then touched touch (queue_agent q) (s.cells b) else s.cells b) no;
  memory = λ no. ap (λ (cs : Cells). (cs b).region) next.1 ∙ region_by touch q s.cells b no (test b);
}
