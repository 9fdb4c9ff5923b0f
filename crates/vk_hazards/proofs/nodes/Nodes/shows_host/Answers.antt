use Rattle.std.proofs.Common.{◌≡◌, arith, Bool, ◌&&◌, refl, sym, ap, ◌∙◌, subst}
use Rattle.std.specs.Prelude.{Contains}
use Rattle.vk_model.specs.Sync.Node.{Node, nodes}
use Rattle.vk_order.specs.Bytes.{byte_of}
use Rattle.vk_order.specs.Wide.{access_of}
use Rattle.vk_order.specs.NodeViews.{node_of}
use Rattle.vk_hazards.specs.Hazards.{node_at}
use Rattle.vk_hazards.proofs.RowNodes.{row_count, same_row}
use Rattle.vk_hazards.specs.Links.{is_available_at, shows_host}
use Rattle.vk_hazards.proofs.VisibilityLemmas.{shows_is}
use Rattle.vk_hazards.proofs.nodes.Nodes.shows_host.Goals as goal

pub index-requires : goal.index-requires
index-requires c = omega (arith, c.requires.number, row_count _ c.args.self.now c.self.inside.rows.items c.self.invariant.listed c.self.view_is, c.self.inside.rows.ok.0)

pub returns-then-shows : goal.returns-then-shows
returns-then-shows c = λ n cn is.
    let past = c.args.self.now in
    let pair = c.args.pair.now in
    let w = node_at pair.write.by in
    let a = node_at pair.later in
    let k = access_of pair.access in
    let b = byte_of pair.write.byte in
    let m : Node = node_of c.args.number c.index.result.now in
    let same : m ≡ n = same_row _ c.args.self.now c.self.inside.rows.items c.self.invariant.listed c.self.view_is c.args.number c.index.result.now n c.requires.number c.index.ensures cn is in
    let cm : Contains (nodes past) m = subst (λ (x : Node). Contains (nodes past) x) (sym same) cn in
    subst (λ (x : Node). c.is_available_at.result ≡ shows_host past w a k b x) same
    (c.is_available_at.ensures m cm refl ∙ sym (ap (λ (t : Bool). t && is_available_at past w b m) (sym c.shows.ensures ∙ c.if-shows.true)) ∙ shows_is past w a k b c.args.number c.index.result.now c.requires.on_host)

pub returns-else-shows : goal.returns-else-shows
returns-else-shows c = λ n cn is.
    let past = c.args.self.now in
    let pair = c.args.pair.now in
    let w = node_at pair.write.by in
    let a = node_at pair.later in
    let k = access_of pair.access in
    let b = byte_of pair.write.byte in
    let m : Node = node_of c.args.number c.index.result.now in
    let same : m ≡ n = same_row _ c.args.self.now c.self.inside.rows.items c.self.invariant.listed c.self.view_is c.args.number c.index.result.now n c.requires.number c.index.ensures cn is in
    subst (λ (x : Node). c.shows.result ≡ shows_host past w a k b x) same
    (c.if-shows.false ∙ sym (ap (λ (t : Bool). t && is_available_at past w b m) (sym c.shows.ensures ∙ c.if-shows.false)) ∙ shows_is past w a k b c.args.number c.index.result.now c.requires.on_host)
