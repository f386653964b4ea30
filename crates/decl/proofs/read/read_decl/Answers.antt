use Rattle.std.proofs.Common.{sym, ◌∙◌}
use Rattle.std.proofs.lemmas.Bool.{false≢true}
use Rattle.toml.specs.View.{table_view}
use Rattle.decl.proofs.Wholes.{declares, first_fault, no_document}
use Rattle.decl.proofs.read.read_decl.Goals as goal

pub returns-in-Ok-clause-declares : goal.returns-in-Ok-clause-declares
returns-in-Ok-clause-declares c =
    declares c.args.bytes.now (table_view c.in-Ok.table) c.if-bytes-gt-MOST_BYTES.false c.in-Ok.ensures.ok.0 c.in-Ok.ensures.ok.1 c.read_document.result c.read_document.ensures.sound c.read_document.ensures.declared

pub returns-in-Ok-clause-fault : goal.returns-in-Ok-clause-fault
returns-in-Ok-clause-fault c =
    first_fault c.args.bytes.now (table_view c.in-Ok.table) c.if-bytes-gt-MOST_BYTES.false c.in-Ok.ensures.ok.0 c.in-Ok.ensures.ok.1 c.read_document.result c.read_document.ensures.fault

pub returns-else-is_memory-clause-fault : goal.returns-else-is_memory-clause-fault
returns-else-is_memory-clause-fault c =
    no_document c.args.bytes.now c.at-else-is_memory.result c.if-bytes-gt-MOST_BYTES.false (c.in-Err.ensures.refused (λ m. false≢true (sym c.if-is_memory.false ∙ c.is_memory.ensures.1 m)))
    c.at-else-is_memory.ensures
