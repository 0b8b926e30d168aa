-- The lines of one more port stand behind those of the ports before it.
use Rattle.std.proofs.Common.{◌≡◌, ℕ, ◌+◌, List, [], ◌∷◌, ◌++◌, length, arith, append_assoc, zero-add, refl, sym, ap, ◌∙◌, codes}
use Rattle.std.proofs.lemmas.Grind.{common_steps}
use Rattle.flow_reading.specs.Printed.{ports_text, port_text, numbered_text}
use Rattle.flow_reading.specs.Line.{line_text}
use Rattle.flow_reading.specs.declared.report.PortReport.{PortReport}

pub ports_text_more : (number : ℕ) (ports : List PortReport) (port : PortReport) →
    ports_text number (ports ++ port ∷ []) ≡ ports_text number ports ++ port_text (number + length ports) port
ports_text_more number [] port = grind (arith, common_steps)
ports_text_more number (first ∷ ports) port =
    grind (arith, common_steps, ports_text_more (number + 1) ports port)

-- what two more pieces add
two_more : (text before rest first second behind others : List ℕ) →
    text ≡ before ++ rest → rest ≡ first ++ behind → behind ≡ second ++ others →
    text ≡ (before ++ (first ++ second)) ++ others
two_more text before rest first second behind others a b d = a ∙ (rw (b, d) (simp append_assoc))

-- where two more lines of a port with the next number are read, those of one more port are
pub ports_step : (text rest behind others : List ℕ) (ports : List PortReport) (port : PortReport) (number : ℕ) →
    text ≡ ports_text 0 ports ++ rest →
    rest ≡ line_text (codes "port ") (numbered_text number port.taken) ++ behind →
    behind ≡ line_text (codes "held ") (numbered_text number port.held) ++ others →
    number ≡ length ports →
    text ≡ ports_text 0 (ports ++ port ∷ []) ++ others
ports_step text rest behind others ports port number read taken held next =
    let here : ports_text 0 (ports ++ port ∷ []) ≡ ports_text 0 ports ++ port_text number port =
    rw ports_text_more (rw next (rw zero-add refl)) in
    two_more
    text
    (ports_text 0 ports)
    rest
    (line_text (codes "port ") (numbered_text number port.taken))
    (line_text (codes "held ") (numbered_text number port.held))
    behind
    others
    read
    taken
    held
    ∙ ap (λ (lines : List ℕ). lines ++ others) (sym here)
