use Rattle.std.proofs.Common.{◌≡◌, ◌∷◌, [], ◌++◌, ◌∙◌, ℕ, ℤ, length, sym, ap, subst, to_z, of_z}
use Rattle.std.specs.List.{flat_map}
use Rattle.std.proofs.lemmas.Int.{to_z-of_z}
use mir.Syntax.{w128}
use Rattle.atto.specs.NsText.{ns_text}
use Rattle.line_format.specs.Words.{line_of}
use Rattle.problem_model.specs.Rows.{attaining}
use Rattle.ports.proofs.Writing.{writes_as, writes_then, writes_front, writes_failed}
use Rattle.cert.specs.Listed.{listed_step, listed_values}
use Rattle.attain.specs.RowLists.{cells_for}
use Rattle.attain.specs.Sides.{part, differences, IsLeadOf}
use Rattle.attain.proofs.Parts.{limit_text}
use Rattle.attain.proofs.Paths.{path_of}
use Rattle.attain.proofs.RowFacts.{row_is}
use Rattle.attain.proofs.part.write_limit.Goals as goal

pub returns-in_err-write_whole : goal.returns-in_err-write_whole
returns-in_err-write_whole g c =
    let l = g.N.Listing.listed c.args.names.now in
    let r = c.args.rows.now in
    let side = c.args.side in
    let cells = cells_for side r in
    let q = c.args.q in
    let K = to_z w128 (of_z w128 c.lead_of-lead.result) in
    let is_lead : IsLeadOf side (length r.graph.nodes) cells r.values K =
    subst (IsLeadOf side (length r.graph.nodes) cells r.values) (sym (to_z-of_z w128 c.lead_of-lead.result (record { sfits = c.lead_of-lead.type_inv }))) c.lead_of-lead.ensures.lead in
    let v = differences side cells q in
    let value : to_z w128 (of_z w128 c.difference.result) ≡ v = to_z-of_z w128 c.difference.result (record { sfits = c.difference.type_inv }) ∙ c.difference.ensures.value in
    let x = line_of (part side ∷ ns_text v ∷ []) in
    let times : ℕ → ℤ = attaining cells.known (differences side cells) r.values K in
    let z = listed_values l times in
    let line : c.as_slice.result.now ≡ x = c.as_slice.ensures.value ∙ c.limit_line-line.ensures ∙ ap (λ (n : ℤ). line_of (part side ∷ ns_text n ∷ [])) value in
    let path = path_of side r.graph r.node cells q (row_is side r c.exact.ensures) c.requires.known in
    let y = flat_map (listed_step l) path.0 in
    let such = limit_text l r.graph r.values cells r.node q side K path.0 c.requires.known is_lead path.1 path.2 in
    (x ++ y ++ z, such, writes_failed c.from_residual.ensures.0 (writes_front z (writes_front y (writes_as line c.in_err-write_whole.ensures))))

pub returns-in_err-write_path : goal.returns-in_err-write_path
returns-in_err-write_path g c =
    let l = g.N.Listing.listed c.args.names.now in
    let r = c.args.rows.now in
    let side = c.args.side in
    let cells = cells_for side r in
    let q = c.args.q in
    let K = to_z w128 (of_z w128 c.lead_of-lead.result) in
    let is_lead : IsLeadOf side (length r.graph.nodes) cells r.values K =
    subst (IsLeadOf side (length r.graph.nodes) cells r.values) (sym (to_z-of_z w128 c.lead_of-lead.result (record { sfits = c.lead_of-lead.type_inv }))) c.lead_of-lead.ensures.lead in
    let v = differences side cells q in
    let value : to_z w128 (of_z w128 c.difference.result) ≡ v = to_z-of_z w128 c.difference.result (record { sfits = c.difference.type_inv }) ∙ c.difference.ensures.value in
    let x = line_of (part side ∷ ns_text v ∷ []) in
    let times : ℕ → ℤ = attaining cells.known (differences side cells) r.values K in
    let z = listed_values l times in
    let line : c.as_slice.result.now ≡ x = c.as_slice.ensures.value ∙ c.limit_line-line.ensures ∙ ap (λ (n : ℤ). line_of (part side ∷ ns_text n ∷ [])) value in
    let path = c.in_err-write_path.ensures in
    let y = flat_map (listed_step l) path.0 in
    let such = limit_text l r.graph r.values cells r.node q side K path.0 c.requires.known is_lead path.1 path.2 in
    (x ++ y ++ z, such, writes_failed c.from_residual-in_err-write_path.ensures.0 (writes_front z (writes_then (writes_as line c.in_ok-write_whole.ensures) path.3)))

pub returns : goal.returns
returns g c =
    let l = g.N.Listing.listed c.args.names.now in
    let r = c.args.rows.now in
    let side = c.args.side in
    let cells = cells_for side r in
    let q = c.args.q in
    let K = to_z w128 (of_z w128 c.lead_of-lead.result) in
    let is_lead : IsLeadOf side (length r.graph.nodes) cells r.values K =
    subst (IsLeadOf side (length r.graph.nodes) cells r.values) (sym (to_z-of_z w128 c.lead_of-lead.result (record { sfits = c.lead_of-lead.type_inv }))) c.lead_of-lead.ensures.lead in
    let v = differences side cells q in
    let value : to_z w128 (of_z w128 c.difference.result) ≡ v = to_z-of_z w128 c.difference.result (record { sfits = c.difference.type_inv }) ∙ c.difference.ensures.value in
    let x = line_of (part side ∷ ns_text v ∷ []) in
    let times : ℕ → ℤ = attaining cells.known (differences side cells) r.values K in
    let z = listed_values l times in
    let line : c.as_slice.result.now ≡ x = c.as_slice.ensures.value ∙ c.limit_line-line.ensures ∙ ap (λ (n : ℤ). line_of (part side ∷ ns_text n ∷ [])) value in
    let path = c.in_ok-write_path.ensures in
    let y = flat_map (listed_step l) path.0 in
    let such = limit_text l r.graph r.values cells r.node q side K path.0 c.requires.known is_lead path.1 path.2 in
    (x ++ y ++ z, such, writes_then (writes_then (writes_as line c.in_ok-write_whole.ensures) path.3) c.write_times.ensures)
