-- What is answered for the choice: the image that is chosen, or the firmware image's refusal. Assumes nothing.
use Rattle.std.specs.Prelude.{Result}
use Rattle.choice.specs.declared.Part.{Part}
use Rattle.verdict.specs.declared.Refusal.{Refusal}

abbrev pub ChoiceAnswer : Type 0
ChoiceAnswer = Result Part Refusal
