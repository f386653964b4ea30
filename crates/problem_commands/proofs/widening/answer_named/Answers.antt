use Rattle.std.proofs.Common.{codes, refl}
use Rattle.problem_commands.specs.WhatWords.{asked_words}
use Rattle.problem_commands.specs.Printing.{IsOnlyText}
use Rattle.problem_commands.specs.declared.status.Status.TheVariants.{UnknownName}
use Rattle.problem_commands.proofs.Printing.{closes_prints}
use Rattle.problem_commands.proofs.Widenings.{named_least, unknown_clock}
use Rattle.problem_commands.proofs.widening.answer_named.Goals as goal

pub returns-in-Some : goal.returns-in-Some
returns-in-Some g c = named_least c.args.p.now (asked_words c.args.words.now) _ _ c.answer.result c.in-Some.what c.in-Some.ensures.some c.answer.ensures

pub returns-in-None : goal.returns-in-None
returns-in-None g c =
    unknown_clock c.args.p.now (asked_words c.args.words.now) _ _ c.finish.result c.in-None.ensures.none
    (closes_prints (IsOnlyText (codes "unknown clock\n") UnknownName) (codes "unknown clock\n") UnknownName c.finish.result _ _ (refl, refl) c.finish.ensures)
