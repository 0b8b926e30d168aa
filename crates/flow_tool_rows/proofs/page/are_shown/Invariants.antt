use denote.Shadow.{shadow}
use denote.Text.{Utf8}
use Rattle.flow_tool_rows.proofs.page.are_shown.Given as goal

-- what is left of the page is text
abbrev pub invariant-loop-word : goal.invariant-loop-word
invariant-loop-word g l = shadow (Utf8 l.rest)
