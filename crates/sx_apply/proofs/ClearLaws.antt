-- A valid block can be applied.
use Rattle.std.proofs.Common.{◌∙◌}
use Rattle.sx_apply.specs.Laws.{ValidCanApply}
use Rattle.sx_block.specs.Rule as rule
use Rattle.sx_block.proofs.Rules.{sound_fits, sound_is_tradable, valid_is_sound, widely_admissible}

pub valid_can_apply : ValidCanApply
valid_can_apply parts block valid =
    let header = valid.form.header in
    let sound = valid_is_sound parts block valid in
    let trade = sound_is_tradable parts block sound in
    record {
      admissible = widely_admissible parts block sound;
      below_last = valid.rules rule.BelowLast;
      clears = record {
        prices = header.prices;
        same_assets = valid.rules rule.Assets;
        flow_assets = header.same_assets ∙ valid.rules rule.Assets;
        fits = sound_fits parts block sound;
        rounded = trade.1;
      };
    }
