use Rattle.std.proofs.Common.{◌≡◌, Some}
use Rattle.vk_image_bytes.specs.Inner.Rows.{rows_between}
use Rattle.vk_image_bytes.proofs.Gathering.{between_gathered}
use Rattle.vk_image_bytes.proofs.image_bytes.ImageBytes.add_from.Goals as goal

pub returns-in_ok-add_rows : goal.returns-in_ok-add_rows
returns-in_ok-add_rows c s d same source_there destination_there =
    let of = c.in-Some.ensures in
    let found : Some c.in-Some.rows ≡ Some (rows_between c.args.source.now c.args.self.now c.args.region.now) = of.rows source_there destination_there in
    let is : c.in-Some.rows ≡ rows_between c.args.source.now c.args.self.now c.args.region.now = cc in
    between_gathered c.args.source.now c.args.self.now of.source_shaped of.shaped c.args.copies.now c.add_rows.new.self c.in-Some.rows s d c.args.region.now same source_there destination_there is c.in_ok-add_rows.ensures
