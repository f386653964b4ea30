use Rattle.std.proofs.Common.{◌≡◌, List, ℕ, [], ◌∷◌, ◌++◌, length, append_assoc, string_bytes, sym, ◌∙◌, subst, rules}
use Rattle.std.specs.Prelude.{◌≢◌, ◌==◌, codes}
use Rattle.std.specs.Fmt.{decimal}
use Rattle.std.proofs.lemmas.Bool.{cond-false, ne_eqb}
use Rattle.ports.specs.Memory.{PutFile}
use Rattle.trial.specs.Declaration.{host_name}
use Rattle.trial.specs.Workload.{piece_of, path_of, HasFiles}
use Rattle.trial.proofs.Files.{put_behind}
use Rattle.trial.proofs.Ranges.{in_any_case}
use Rattle.trial.proofs.workload.push_piece.Goals as goal

pub returns-clause-files : goal.returns-clause-files
returns-clause-files c before h =
    let rows : List ℕ = piece_of c.args.host c.args.messages.now in
    let file : PutFile = record { path = path_of c.args.host c.args.batch; bytes = rows } in
    let written : c.as_bytes.result.now ≡ piece_of c.args.host c.args.messages.now = c.as_bytes.ensures.value ∙ c.in_ok-rows.ensures in
    let text : string_bytes c.in_ok-path.path ≡ host_name c.args.host ++ (codes "." ++ decimal c.args.batch) = search rules in
    let named : c.deref.result.now ≡ path_of c.args.host c.args.batch = c.deref.ensures ∙ text ∙ sym (append_assoc (host_name c.args.host) (codes ".") (decimal c.args.batch)) in
    let some : length (piece_of c.args.host c.args.messages.now) ≢ 0 = search rules in
    let put : HasFiles c.put.new.self.puts (before ++ record { path = c.deref.result.now; bytes = c.as_bytes.result.now } ∷ []) = put_behind c.args.files.now.puts c.put.new.self.puts before c.deref.result.now c.as_bytes.result.now h c.in_ok-put.ensures.there c.in_ok-put.ensures.others in
    in_any_case c.write.result
    (subst (λ fs. HasFiles c.put.new.self.puts (before ++ fs)) (sym (cond-false (length rows == 0) [] (file ∷ []) (ne_eqb (length rows) 0 some)))
    (subst (λ (b : List ℕ). HasFiles c.put.new.self.puts (before ++ record { path = path_of c.args.host c.args.batch; bytes = b } ∷ [])) written
    (subst (λ (p : List ℕ). HasFiles c.put.new.self.puts (before ++ record { path = p; bytes = c.as_bytes.result.now } ∷ [])) named put)))
