-- The command of `axrun` is one of which `clap` says its matches and its faults exactly.
use Rattle.std.proofs.Common.{◌≡◌, true, false, [], ◌∷◌, ap, ◌∙◌, refl, inl, inr, arith}
use Rattle.std.proofs.lemmas.Bool.Decides.{nat_tests}
use Rattle.clap.specs.declared.error.kind.ErrorKind.TheVariants.{OutOfMemory}
use Rattle.clap.specs.declared.error.Error.{Error}
use Rattle.clap.specs.Faults.{is_simple_and_free}
use Rattle.clap.specs.Kinds.{HasKind, Kinds}
use Rattle.clap.specs.Simple.{App, is_simple}
use Rattle.clap.specs.Values.{kind_of}
use Rattle.clap.specs.Walk.{is_empty}
use Rattle.clap.proofs.OnLiterals.{clap_on_literals}
use Rattle.spec_command.specs.CommandLine as command_lines

pub axrun_is_simple : is_simple command_lines.axrun ≡ true
unfolding clap_on_literals command_lines.axrun
axrun_is_simple = refl

pub axrun_is_simple_and_free : is_simple_and_free command_lines.axrun ≡ true
unfolding clap_on_literals command_lines.axrun
axrun_is_simple_and_free = refl

pub is_simple-line : (line : App) → line ≡ command_lines.axrun → is_simple line ≡ true
is_simple-line line e = ap is_simple e ∙ axrun_is_simple

pub is_simple_and_free-line : (line : App) → line ≡ command_lines.axrun → is_simple_and_free line ≡ true
is_simple_and_free-line line e = ap is_simple_and_free e ∙ axrun_is_simple_and_free

-- an error that is no want of memory has a kind among the faults, so there are some
pub has_fault : (kinds : Kinds) (e : Error) → HasKind kinds e → (kind_of e ≡ OutOfMemory → is_empty kinds ≡ false) → is_empty kinds ≡ false
has_fault [] e (inl h) f = f h
has_fault [] e (inr h) f = absurd h
has_fault (k ∷ ks) e h f = grind (arith, nat_tests)
