use Rattle.std.proofs.Common.{◌≡◌, ℕ, List, ◌++◌, take, drop, length, sym, ap, ◌∙◌}
use Rattle.std.proofs.lemmas.Bool.Decides.{Decides-eqb}
use Rattle.std.proofs.lemmas.Slice.Eq.{starts_is}
use Rattle.pcapng_stream.specs.Blocks.{section_type}
use Rattle.pcapng_stream.proofs.head.begins_section.Goals as goal

pub returns : goal.returns
returns c =
    let is = starts_is Decides-eqb section_type c.front.result.now c.starts_with.result c.starts_with.ensures.value in
    let first : c.front.result.now ≡ take 4 c.args.bytes.now = c.front.ensures in
    let rest : List ℕ = drop (length c.front.result.now) section_type in (
      (λ so. (rest, ap (λ (l : List ℕ). l ++ rest) (sym first) ∙ sym (is.0 so))),
      (λ front. is.1 front.0 (sym front.1 ∙ ap (λ (l : List ℕ). l ++ front.0) (sym first))),
    )
