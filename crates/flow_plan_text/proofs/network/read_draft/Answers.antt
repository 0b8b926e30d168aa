use Rattle.std.proofs.Common.{◌≡◌, ℕ, List, codes, Some, None, inr, ap, sym, subst, ◌∙◌}
use Rattle.std.proofs.lemmas.Result.{err_from_is_err_and}
use Rattle.std.specs.Prelude.{IsUtf8}
use Rattle.toml.specs.Data.{Members}
use Rattle.toml.specs.Parse.{parse_document}
use Rattle.toml.specs.View.{table_view, items_view}
use Rattle.toml.specs.declared.value.Value.{Value}
use Rattle.flow_link.specs.declared.draft.BlockDef.{BlockDef}
use Rattle.flow_value.specs.declared.steps.Steps.{Steps}
use Rattle.flow_plan_text.specs.Built.{IsLinksRefusal}
use Rattle.flow_plan_text.specs.Keys.{all_items}
use Rattle.flow_plan_text.specs.Passes.{section, first_fault}
use Rattle.flow_plan_text.specs.Read.{AreEach, IsBlock, IsFirstBadWhen, IsRefusedFor, is_sound_in}
use Rattle.flow_fault_text.specs.declared.fault.TextRefusal.{TextRefusal}
use Rattle.flow_fault_text.specs.declared.fault.TextRefusal.TheVariants.{Fault, Memory}
use Rattle.flow_plan_text.specs.declared.network.keys.Part.TheVariants.{Block, Link}
use Rattle.flow_plan_text.proofs.TablesSound.{sound_blocks, sound_links}
use Rattle.flow_plan_text.proofs.network.read_draft.Goals as goal

pub blocks-requires : goal.blocks-requires
blocks-requires c =
    ap (all_items (is_sound_in Block)) c.section.ensures ∙ sound_blocks (table_view c.in-Ok.top) (sym c.in_default.ensures)

pub links-requires : goal.links-requires
links-requires c =
    ap (all_items (is_sound_in Link)) c.section-2.ensures ∙ sound_links (table_view c.in-Ok.top) (sym c.in_default.ensures)

-- where the blocks are read and the links are refused, so is the text
refused_at_links : (text : List ℕ) (top : Members) (blocks links : List Value) (made : List (BlockDef Steps)) (refusal : TextRefusal) → IsUtf8 text
    → parse_document text ≡ Some top → first_fault top ≡ None → items_view blocks ≡ section (codes "block") top
    → items_view links ≡ section (codes "link") top → AreEach IsBlock (items_view blocks) made → IsLinksRefusal links refusal → IsRefusedFor text refusal
refused_at_links text top blocks links made (Fault fault) encoded parsed faultless there here read refused = inr (record {
  encoded = encoded;
  top = top;
  parsed = parsed;
  first = inr (
    faultless,
    inr (record {
      blocks = (made, subst (λ ds. AreEach IsBlock ds made) there read);
      link = (refused.0, refused.1, subst (λ ds. IsFirstBadWhen ds refused.0) here refused.2);
    }),
  );
})
refused_at_links text top blocks links made Memory encoded parsed faultless there here read refused = tt

pub returns-in_err-links : goal.returns-in_err-links
returns-in_err-links c =
    let p = err_from_is_err_and c.from_residual-in_err-links.result c.from_residual-in_err-links.ensures.1 in
    rw (p.1, p.2)
    (refused_at_links c.args.text.now (table_view c.in-Ok.top) c.section.result.now c.section-2.result.now c.in_ok-blocks.field-0.items c.in_err-links.field-0.0
    c.in-Ok.ensures.ok.0 c.in-Ok.ensures.ok.1 (sym c.in_default.ensures) c.section.ensures c.section-2.ensures c.in_ok-blocks.ensures c.in_err-links.ensures)
