-- The step of a border, and its byte in a text.
use Rattle.std.specs.Prelude.{ℕ, cond, List, Some, None, Option, ◌==◌}
use Rattle.std.specs.Fmt.{decimal}
use Rattle.border.specs.declared.step.Step.{Step}
use Rattle.border.specs.declared.step.Step.TheVariants.{One, Two, Four}

abbrev pub step_byte : Step → ℕ
step_byte One = 1
step_byte Two = 2
step_byte Four = 4

abbrev pub step_for : ℕ → Option Step
step_for b = cond (b == 1) (Some One) (cond (b == 2) (Some Two) (cond (b == 4) (Some Four) None))

-- how a step is printed
abbrev pub step_text : Step → List ℕ
step_text s = decimal (step_byte s)
