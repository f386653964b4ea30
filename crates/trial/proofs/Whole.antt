-- All batches are the whole, and all parts of the declaration its text.
use Rattle.std.proofs.Common.{◌≡◌, ℕ, ◌++◌, refl}
use Rattle.std.specs.Prelude.{codes}
use Rattle.std.specs.List.{flat_map, range_with_len}
use Rattle.trial.specs.Rounds.{hosts}
use Rattle.trial.specs.Declaration.{host_text, label_text, links_text, declaration_text}
use Rattle.trial.specs.Workload.{batch_messages, batch_files, batch_lines, files_of, script_of}

pub all_files : (seed : ℕ) → flat_map (λ batch. batch_files batch (batch_messages seed batch)) (range_with_len 1 20) ≡ files_of seed
unfolding files_of
all_files seed = refl

pub all_lines : (seed : ℕ) → flat_map (λ batch. batch_lines batch (batch_messages seed batch)) (range_with_len 1 20) ≡ script_of seed
unfolding script_of
all_lines seed = refl

pub all_parts : codes "source = \"h0\"\n" ++ flat_map host_text hosts ++ flat_map label_text hosts ++ flat_map links_text hosts ≡ declaration_text
unfolding declaration_text
all_parts = refl
