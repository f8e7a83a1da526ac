-- A TABLE MEETS THE RULES' ITEMS EXACTLY WHERE IT IS A TYPING.
use Rattle.checker_rules.specs.RuleTypings.{RuleTypings}
use Rattle.checker_rules.proofs.TypingLaws.{expr_law, pred_law, text_law, lines_law, included_law, schema_law, paragraph_law}

pub rule_typings : RuleTypings
rule_typings = record {
  expr = expr_law;
  pred = pred_law;
  text = text_law;
  lines = lines_law;
  included = included_law;
  schema = schema_law;
  paragraph = paragraph_law;
}
