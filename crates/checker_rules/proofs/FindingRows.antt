-- THE ROWS 31, 32, 36, 37 AND 38: each number comes where its row says, and nowhere else.
use Rattle.checker_rules.specs.FindingRows.{FindingRows}
use Rattle.checker_rules.proofs.FindingLaws.{ref_31, ref_32, theta_31, theta_32, theta_37, include_31, include_32, include_37}
use Rattle.checker_rules.proofs.LineFindings.{text_lines_find, from_findings, schema_set_findings, both_findings, given_findings, abbreviation_findings}

pub finding_rows : FindingRows
finding_rows = record {
  ref31 = ref_31;
  ref32 = ref_32;
  theta31 = theta_31;
  theta32 = theta_32;
  theta37 = theta_37;
  include31 = include_31;
  include32 = include_32;
  include37 = include_37;
  lines = text_lines_find;
  from38 = from_findings;
  schema_set38 = schema_set_findings;
  conjunction = both_findings;
  given36 = given_findings;
  abbreviations = abbreviation_findings;
}
