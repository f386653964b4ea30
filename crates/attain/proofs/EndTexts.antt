-- The written ends of an interval are the text of ends of the problem that is listed.
use Rattle.std.proofs.Common.{◌≡◌, ℕ, List, [], ◌∷◌, ◌++◌, map, codes, refl, sym, ◌∙◌, ap}
use Rattle.std.specs.List.{flat_map}
use Rattle.atto.specs.NsText.{ns_text}
use Rattle.line_format.specs.Words.{line_of}
use Rattle.problem_model.specs.Problem.{ProblemLists}
use Rattle.problem_model.specs.ProblemText.{event_name}
use Rattle.problem_model.specs.Nodes.{Reading, nodes_of}
use Rattle.cert.specs.declared.chain.Step.{Step}
use Rattle.cert.specs.EndLists.{EndLists, Limited, Unlimited}
use Rattle.problem.specs.Listing.{Listed, name_at, listed_nodes}
use Rattle.cert.specs.Listed.{listed_values, certified}
use Rattle.cert.specs.CertificateText.{step_line, inside_line, end_text, ends_lines}
use Rattle.problem_graph.specs.ListedProblem.{IsListedBy, StandsAt}
use Rattle.attain.specs.ListedProblem.{AreCarried}
use Rattle.attain.specs.Written.{WrittenEnd, Limit, NoLimit, written_inside, written_end, written_ends}
use Rattle.attain.proofs.ListedProblems.{clock_listed, event_listed, steps_carried, values_listed}

-- the same end by the problem: with the bounds carried to it, and real times in the order of its nodes
abbrev pub IsListedEnd : Listed → WrittenEnd → EndLists → Type 0
IsListedEnd l (Limit value steps x) end = (path : List Step) × AreCarried l steps path × (end ≡ Limited value path (map x (listed_nodes l)))
IsListedEnd l (NoLimit inside x) end = end ≡ Unlimited inside (map x (listed_nodes l))

module _ (l : Listed) (p : ProblemLists) (readings : List Reading) (is : IsListedBy l p readings) where
  inside_listed : (clocks : List ℕ) → flat_map (written_inside l) clocks ≡ flat_map (inside_line p) clocks
  inside_listed [] = refl
  inside_listed (clock ∷ clocks) =
      ap (λ (name : List ℕ). line_of (codes "inside" ∷ name ∷ []) ++ flat_map (written_inside l) clocks) (clock_listed l p readings is clock)
      ∙ ap (λ (text : List ℕ). inside_line p clock ++ text) (inside_listed clocks)

  end_listed : (part unlimited : List ℕ) (w : WrittenEnd) (end : EndLists) → IsListedEnd l w end → written_end l part unlimited w ≡ end_text p (nodes_of p readings) part unlimited end
  end_listed part unlimited (Limit value steps x) end (path, carried, same) =
      ap (λ (text : List ℕ). line_of (part ∷ ns_text value ∷ []) ++ text ++ listed_values l x) (steps_carried l p readings is steps path carried)
      ∙ ap (λ (text : List ℕ). line_of (part ∷ ns_text value ∷ []) ++ flat_map (step_line p) path ++ text) (values_listed l p readings is x)
      ∙ ap (end_text p (nodes_of p readings) part unlimited) (sym same)
  end_listed part unlimited (NoLimit inside x) end same =
      ap (λ (text : List ℕ). line_of (part ∷ unlimited ∷ []) ++ text ++ listed_values l x) (inside_listed inside)
      ∙ ap (λ (text : List ℕ). line_of (part ∷ unlimited ∷ []) ++ flat_map (inside_line p) inside ++ text) (values_listed l p readings is x)
      ∙ ap (end_text p (nodes_of p readings) part unlimited) (sym same)

  head_listed : (j k first second : ℕ) → StandsAt l j first → StandsAt l k second
      → line_of (codes "ends" ∷ name_at l.event_names j ∷ name_at l.event_names k ∷ []) ≡ line_of (codes "ends" ∷ event_name p.events first ∷ event_name p.events second ∷ [])
  head_listed j k first second there there' =
      ap (λ (name : List ℕ). line_of (codes "ends" ∷ name ∷ name_at l.event_names k ∷ [])) (event_listed l p readings is j first there)
      ∙ ap (λ (name : List ℕ). line_of (codes "ends" ∷ event_name p.events first ∷ name ∷ [])) (event_listed l p readings is k second there')

  pub ends_listed : (j k first second : ℕ) → StandsAt l j first → StandsAt l k second → (upper lower : WrittenEnd) (above below : EndLists) → IsListedEnd l upper above → IsListedEnd l lower below
      → written_ends l j k upper lower ≡ certified (ends_lines p (nodes_of p readings) first second above below)
  ends_listed j k first second there there' upper lower above below is_above is_below =
      ap (λ (text : List ℕ). certified (text ++ written_end l (codes "upper") (codes "+inf") upper ++ written_end l (codes "lower") (codes "-inf") lower)) (head_listed j k first second there there')
      ∙ ap (λ (text : List ℕ). certified (line_of (codes "ends" ∷ event_name p.events first ∷ event_name p.events second ∷ []) ++ text ++ written_end l (codes "lower") (codes "-inf") lower))
      (end_listed (codes "upper") (codes "+inf") upper above is_above)
      ∙ ap (λ (text : List ℕ). certified (line_of (codes "ends" ∷ event_name p.events first ∷ event_name p.events second ∷ []) ++ end_text p (nodes_of p readings) (codes "upper") (codes "+inf") above ++ text))
      (end_listed (codes "lower") (codes "-inf") lower below is_below)
