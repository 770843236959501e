-- The answer of the code, as the definitions have it.
use Rattle.json_model.specs.Reading.{told}
use Rattle.frame_rules.specs.Frame as Frame
use Rattle.frame.specs.declared.Answer.{Answer}
use Rattle.frame.specs.declared.Answer.TheVariants.{Long, Hex, Binary, Fractured}

abbrev pub told_answer : Answer → Frame.Answer
told_answer Long = Frame.long
told_answer Hex = Frame.hex
told_answer (Binary v) = Frame.binary (told v)
told_answer (Fractured v) = Frame.fractured (told v)
