use Rattle.std.proofs.Common.{◌≡◌, Some}
use Rattle.vk_image_bytes.specs.Inner.Rows.{rows_in}
use Rattle.vk_image_bytes.proofs.Gathering.{in_gathered}
use Rattle.vk_image_bytes.proofs.image_bytes.ImageBytes.add_in.Goals as goal

pub returns-in_ok-add_rows : goal.returns-in_ok-add_rows
returns-in_ok-add_rows c b i size small inside =
    let found : Some c.in-Some.rows ≡ Some (rows_in c.args.self.now c.args.region.now) = c.in-Some.ensures.rows inside.box in
    let is : c.in-Some.rows ≡ rows_in c.args.self.now c.args.region.now = cc in
    in_gathered c.args.self.now c.in-Some.ensures.shaped c.args.copies.now c.add_rows.new.self c.in-Some.rows b i size small c.args.region.now inside is c.in_ok-add_rows.ensures
