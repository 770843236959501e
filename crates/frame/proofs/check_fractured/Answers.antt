use Rattle.frame.proofs.Frames.{frame_laws}
use Rattle.frame.proofs.check_fractured.Goals as goal

pub returns : goal.returns
returns c = search frame_laws
