use Rattle.anytime_core.proofs.LaterLemmas.{stays_sound, always_encloses}
use Rattle.anytime_core.proofs.laws.every_state_is_sound.Goals as goal

pub returns-clause-sound : goal.returns-clause-sound
returns-clause-sound c = stays_sound

pub returns-clause-encloses : goal.returns-clause-encloses
returns-clause-encloses c = always_encloses
