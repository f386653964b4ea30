use Rattle.std.proofs.Common.{◌≡◌, ◌++◌, List, ℕ, [], string_bytes, sym, subst, rules}
use Rattle.std.specs.Prelude.{◌==◌, codes, OnOk}
use Rattle.std.proofs.lemmas.Bool.{cond-false, ne_eqb}
use Rattle.trial.specs.Declaration.{host_name, link_text}
use Rattle.trial.proofs.Ranges.{two_words}
use Rattle.trial.proofs.declaration.push_link.Goals as goal

pub returns : goal.returns
returns c =
    let text : List ℕ = codes "[[links]]\nfrom = \"" ++ host_name c.args.from ++ codes "\"\nto = \"" ++ host_name c.args.to ++ codes "\"\nleast = 1000\nmost = 100000\n" in
    let is : link_text c.args.from c.args.to ≡ text = cond-false (c.args.from == c.args.to) [] text (ne_eqb c.args.from c.args.to c.if-from-to.false) in
    subst (λ t. OnOk c.write.result (string_bytes c.write.new.self ≡ string_bytes c.args.text.now ++ t)) (sym is)
    (two_words c.write.result (string_bytes c.args.text.now) (string_bytes c.write.new.self) (codes "[[links]]\nfrom = \"") (host_name c.args.from) (codes "\"\nto = \"") (host_name c.args.to) (codes "\"\nleast = 1000\nmost = 100000\n") (search rules))
