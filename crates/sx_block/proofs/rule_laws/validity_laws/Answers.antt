use Rattle.sx_block.proofs.Rules.{applicable_is_sound, fitting_is_sound, sound_fits, sound_is_admissible}
use Rattle.sx_block.proofs.Rules.{sound_is_applicable, sound_is_tradable, sound_is_valid, valid_is_sound}
use Rattle.sx_block.proofs.Rules.{widely_admissible}
use Rattle.sx_block.proofs.rule_laws.validity_laws.Goals as goal

pub returns : goal.returns
returns c = record {
  admissible = sound_is_admissible;
  body = widely_admissible;
  fits = sound_fits;
  tradable = sound_is_tradable;
  sound = fitting_is_sound;
  valid = sound_is_valid;
  back = valid_is_sound;
  applicable = sound_is_applicable;
  named = applicable_is_sound;
}
